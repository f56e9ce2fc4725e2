-- The fraction of two whole numbers as a float. Definitions only.
use Rattle.std.specs.Prelude.{ℕ, Bool, true, false, ℤ, pos, negsuc, nat_abs, Float}
use Rattle.std.specs.Float.{Format}
use Rattle.std.specs.Float.Ieee.{round}

-- whether a whole number is below 0
abbrev pub negative : ℤ → Bool
negative (pos n) = false
negative (negsuc n) = true

-- a / b, rounded once
abbrev pub ratio : Format → ℤ → ℕ → Float
ratio f a b = round f (negative a) (nat_abs a) b
