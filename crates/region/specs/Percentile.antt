-- The floor of a track: the 10th percentile of its finite dB, between two of them by proportion. Definitions only.
use Rattle.std.specs.Prelude.{ℕ, ◌+◌, ◌-◌, min, false, List, [], ◌∷◌, length, pos, slice_index_or, Float, Option, None, Some}
use Rattle.std.specs.Float.{nan, binary64}
use Rattle.std.specs.Float.Ieee.{round, add, sub, mul, of_int, to_unsigned}
use Rattle.std.specs.Float.Ieee.Scale.{finite}
use Rattle.floats.specs.Narrow.{narrow}
use Rattle.floats.specs.Total.{not_after}
use Rattle.lists.specs.Results.{filter}
use Rattle.lists.specs.By.{sort_by}

-- 0.10, the f64 nearest to one tenth
abbrev pub tenth : Float
tenth = round binary64 false 1 10

-- where the percentile stands among a number of entries: 0.10 * (count - 1)
abbrev pub rank_of : ℕ → Float
rank_of count = mul binary64 tenth (of_int binary64 (pos (count - 1)))

-- the whole number of a rank without its fraction
abbrev pub whole_part : Float → ℕ
whole_part rank = to_unsigned 64 rank

-- lo + (rank - below) * (hi - lo), each operation rounded to f64 and the whole to f32
abbrev pub by_proportion : Float → ℕ → Float → Float → Float
by_proportion rank below lo hi = narrow (add binary64 lo (mul binary64 (sub binary64 rank (of_int binary64 (pos below))) (sub binary64 hi lo)))

-- at a rank of a sorted list, between the entry at its whole part and the next, or that entry twice where it is the last
abbrev pub interpolated : List Float → Float → ℕ → Float
interpolated s rank below = by_proportion rank below (slice_index_or s below nan) (slice_index_or s (min (below + 1) (length s - 1)) nan)

-- the 10th percentile of a sorted list
unfoldable pub tenth_of : List Float → Float
tenth_of s = interpolated s (rank_of (length s)) (whole_part (rank_of (length s)))

-- none of an empty list
abbrev pub floor_in : List Float → Option Float
floor_in [] = None
floor_in (x ∷ xs) = Some (tenth_of (x ∷ xs))

-- of the finite dB, sorted in the total order
abbrev pub floor_of : List Float → Option Float
floor_of db = floor_in (sort_by not_after (filter finite db))
