-- The normalised square difference function of McLeod and Wyvill ("A Smarter Way to Find Pitch"), over whole-number samples, and the part of a take that it
-- is measured over. Definitions only.
use Rattle.std.specs.Prelude.{ℕ, ◌+◌, ◌-◌, ◌*◌, cond, List, [], ◌∷◌, ℤ, pos, nat_abs, ◌+ℤ◌, ◌*ℤ◌, eqb, take, drop, Float}
use Rattle.std.specs.Float.{binary64}
use Rattle.floats.specs.Plain.{zero_f}
use Rattle.floats.specs.Ratio.{ratio}

-- the square of a sample
abbrev pub square : ℤ → ℕ
square x = nat_abs x * nat_abs x

-- the products of the pairs that two lists make, added up; of a window and its part from a lag on, the paper's r at that lag
unfoldable pub cross : List ℤ → List ℤ → ℤ
cross [] ys = pos 0
cross (x ∷ xs) [] = pos 0
cross (x ∷ xs) (y ∷ ys) = x *ℤ y +ℤ cross xs ys

-- the squares of both members of each pair, added up: the paper's m
unfoldable pub power : List ℤ → List ℤ → ℕ
power [] ys = 0
power (x ∷ xs) [] = 0
power (x ∷ xs) (y ∷ ys) = square x + square y + power xs ys

-- 2 r / m, rounded once; 0 where there is no energy, as where there is no pair
abbrev pub normalised : ℤ → ℕ → Float
normalised products squares = cond (eqb squares 0) zero_f (ratio binary64 (pos 2 *ℤ products) squares)

-- how well a window repeats at a lag: each sample makes a pair with the one a lag later
unfoldable pub nsdf : List ℤ → ℕ → Float
nsdf w lag = normalised (cross w (drop lag w)) (power w (drop lag w))

-- the 512 samples centred on a sample, as far as the take goes
unfoldable pub window : List ℤ → ℕ → List ℤ
window xs centre = drop (centre - 256) (take (centre + 256) xs)
