-- An estimate in range is read as what it was held as. Assumes nothing.
use mathlib.Core.Path.{◌≡◌, refl}
use mathlib.Core.Bool.{false}
use lib.Ieee.{Float, eq}
use lib.Ieee.Positive.{between}
use Rattle.floats.specs.Plain.{zero_f}
use Rattle.floats.proofs.Zeros.{positive_not_zero}
use Rattle.std.specs.Prelude.{Option, None, Some, unwrap_or}
use Rattle.powers.specs.Pitch.{hz, Between}
use Rattle.recover.specs.Estimates.{InRange}
use Rattle.recover.specs.Held.{held, read_of, OneZero}

-- ---- an estimate in range, as it is held
not_none : (x : Float) → Between 60 600 x → eq x zero_f ≡ false
not_none x b = positive_not_zero x (between (hz 60) x (hz 600) tt tt b.0 b.1)

pub read_none : read_of zero_f ≡ None
unfolding eq
read_none = refl

pub held_one : (e : Option Float) → InRange e → OneZero (held e)
held_one None h q = refl
held_one (Some x) h q = let n = not_none x (h x refl) in cc

pub read_held : (e : Option Float) → InRange e → read_of (held e) ≡ e
read_held None h = read_none
read_held (Some x) h = rw (not_none x (h x refl))

-- it is held as what is there, or 0
pub held_or : (z : Float) → z ≡ zero_f → (e : Option Float) → unwrap_or e z ≡ held e
held_or z zero None = zero
held_or z zero (Some x) = refl
