-- Numbers that the code writes out, the size of a number, the test of a range, and values that take the place of others. Definitions only.
use Rattle.std.specs.Prelude.{zero, suc, Bool, false, ◌&&◌, cond, pos, negsuc, Float}
use Rattle.std.specs.Float.{nan, inf, fin}
use Rattle.std.specs.Float.Ieee.{le}
use Rattle.std.specs.Float.Ieee.Scale.{finite}

-- +0.0
abbrev pub zero_f : Float
zero_f = fin false 0 (pos 0)

-- 0.5
abbrev pub half : Float
half = fin false 1 (negsuc 0)

-- 2.0
abbrev pub two : Float
two = fin false 1 (pos 1)

-- a value without its sign; of a zero, +0.0
abbrev pub magnitude : Float → Float
magnitude nan = nan
magnitude (inf s) = inf false
magnitude (fin s zero e) = zero_f
magnitude (fin s (suc m) e) = fin false (suc m) e

-- whether x is from lo to hi, the ends included; a NaN is nowhere
abbrev pub is_between : Float → Float → Float → Bool
is_between lo hi x = le lo x && le x hi

-- what is not finite reads as +0.0
abbrev pub or_zero : Float → Float
or_zero x = cond (finite x) x zero_f

-- a zero is written as +0.0
abbrev pub plain_zero : Float → Float
plain_zero nan = nan
plain_zero (inf s) = inf s
plain_zero (fin s zero e) = zero_f
plain_zero (fin s (suc m) e) = fin s (suc m) e
