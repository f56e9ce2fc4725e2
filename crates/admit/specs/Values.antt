-- What is admitted of a value and of every entry of a list. Definitions only.
use Rattle.std.specs.Prelude.{ℕ, ◌+◌, Bool, true, not, ◌&&◌, ◌||◌, List, [], ◌∷◌, pos, leb, ltb, eqb, Float}
use Rattle.std.specs.Float.{binary32}
use Rattle.std.specs.Float.Ieee.{of_int, to_bits}
use Rattle.std.specs.Float.Ieee.Scale.{finite}
use Rattle.floats.specs.Plain.{magnitude, is_between}

-- a whole number as an f32
abbrev pub number : ℕ → Float
number n = of_int binary32 (pos n)

-- dB: finite within -1,000 to 1,000, or not finite
unfoldable pub db_admitted : Float → Bool
db_admitted d = not (finite d) || is_between (number 0) (number 1000) (magnitude d)

-- a pitch: +0.0, which is none, by its bits, since those of -0.0 are others; or from lo to hi Hz
unfoldable pub pitch_admitted : Float → Float → Float → Bool
pitch_admitted lo hi x = eqb (to_bits binary32 x) 0 || is_between lo hi x

-- a share, as `voiced_p` and sonority are: 0 to 1
abbrev pub share_admitted : Float → Bool
share_admitted = is_between (number 0) (number 1)

-- a mark: 0 or 1
abbrev pub mark_admitted : ℕ → Bool
mark_admitted m = leb m 1

-- every entry passes
unfoldable pub all_of : {A : Type 0} → (A → Bool) → List A → Bool
all_of t [] = true
all_of t (x ∷ xs) = t x && all_of t xs

-- entries from lo on and below hi, each above the one before it
unfoldable pub rising : ℕ → ℕ → List ℕ → Bool
rising lo hi [] = true
rising lo hi (x ∷ xs) = leb lo x && ltb x hi && rising (x + 1) hi xs
