-- Local extrema of a track, the extremum of a part of it, and valleys. Definitions only.
use Rattle.std.specs.Prelude.{ℕ, ◌+◌, ◌-◌, ◌/◌, Bool, true, false, not, ◌&&◌, ◌||◌, List, length, leb, ltb, eqb, Float}
use Rattle.std.proofs.Math.Seq.{slice}
use Rattle.std.specs.Float.{inf, binary32}
use Rattle.std.specs.Float.Ieee.{lt, ne, sub}
use Rattle.lists.specs.Frames.{at, some_frame, first_frame, last_frame}
use Rattle.lists.specs.Results.{keep}
use Rattle.lists.specs.By.{better, best_of}
use Rattle.smooth.specs.declared.extrema.Extremum.{Extremum}
use Rattle.smooth.specs.declared.extrema.Extremum.TheVariants.{Max, Min}

-- x is above y for a maximum, and below it for a minimum
abbrev pub beyond : Extremum → Float → Float → Bool
beyond Max x y = lt y x
beyond Min x y = lt x y

-- ---- flat stretches: neighbouring frames of one value
-- the value changes from frame j to the next
abbrev pub changes_after : List Float → ℕ → Bool
changes_after s j = ne (at s (j + 1)) (at s j)

-- the first frame of the flat stretch that frame i is in
abbrev pub flat_first : List Float → ℕ → ℕ
flat_first s = last_frame (λ j. changes_after s (j - 1))

-- the last frame of the flat stretch that frame i is in, at most k frames on
abbrev pub flat_last : List Float → ℕ → ℕ → ℕ
flat_last s = first_frame (changes_after s)

-- its middle, rounded down
abbrev pub middle : ℕ → ℕ → ℕ
middle first last = (first + last) / 2

-- ---- local extrema
-- no frame stands before frame i, or frame i is beyond it
abbrev pub left_clear : Extremum → List Float → ℕ → Bool
left_clear kind s i = eqb i 0 || beyond kind (at s i) (at s (i - 1))

-- no frame stands after frame j, or frame j is beyond it
abbrev pub right_clear : Extremum → List Float → ℕ → Bool
right_clear kind s j = leb (length s) (j + 1) || beyond kind (at s j) (at s (j + 1))

-- frame i is the middle of the flat stretch first .. last, and this is beyond what surrounds it
abbrev pub peaks_at : Extremum → List Float → ℕ → ℕ → ℕ → Bool
peaks_at kind s first last i = eqb (middle first last) i && (left_clear kind s first && right_clear kind s last)

-- frame i is a local extremum: so for the whole flat stretch that it is in
unfoldable pub is_extremum : Extremum → List Float → ℕ → Bool
is_extremum kind s i = peaks_at kind s (flat_first s i) (flat_last s i (length s - 1 - i)) i

-- frame i is in lo .. hi
abbrev pub inside : ℕ → ℕ → ℕ → Bool
inside lo hi i = leb lo i && ltb i hi

-- the local extrema in lo .. hi, in order
unfoldable pub local_extrema : List Float → ℕ → ℕ → Extremum → List ℕ
local_extrema s lo hi kind = keep (λ i. is_extremum kind s i && inside lo hi i) 0 (length s)

-- ---- the extremum of the frames from a to b
-- no frame from a to b is beyond frame i
abbrev pub unbeaten : Extremum → List Float → ℕ → ℕ → ℕ → Bool
unbeaten kind s a b i = not (some_frame (λ k. beyond kind (at s k) (at s i)) a (b + 1 - a))

-- the first frame from a to b that none of them is beyond
unfoldable pub first_best : Extremum → List Float → ℕ → ℕ → ℕ
first_best kind s a b = first_frame (unbeaten kind s a b) a (b - a)

-- the middle of the flat stretch from there on, cut at b
unfoldable pub extremum_middle : Extremum → List Float → ℕ → ℕ → ℕ
extremum_middle kind s a b = middle (first_best kind s a b) (flat_last s (first_best kind s a b) (b - first_best kind s a b))

-- the frame of the lowest value
abbrev pub argmin_middle : List Float → ℕ → ℕ → ℕ
argmin_middle = extremum_middle Min

-- the frame of the highest value
abbrev pub argmax_middle : List Float → ℕ → ℕ → ℕ
argmax_middle = extremum_middle Max

-- ---- valleys
-- the further out of two values, the first where they are equal
abbrev pub further : Extremum → Float → Float → Float
further kind = better (beyond kind)

-- the infinity that every other number is beyond
abbrev pub unreached : Extremum → Float
unreached Max = inf true
unreached Min = inf false

-- the value that lies furthest out; a NaN is passed over
unfoldable pub furthest : Extremum → List Float → Float
furthest kind xs = best_of (beyond kind) (unreached kind) xs

-- the lower of two values, and the lowest of a list
abbrev pub lower : Float → Float → Float
lower = further Min

abbrev pub lowest : List Float → Float
lowest = furthest Min

-- the valley from a to b is too shallow for two peaks: no value there falls as far as the dip below the lower of the two
unfoldable pub shallow : List Float → ℕ → ℕ → Float → Bool
shallow s a b dip = lt (sub binary32 (lower (at s a) (at s b)) dip) (lowest (slice a (b + 1) s))
