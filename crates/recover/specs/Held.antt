-- An estimate as a number of 8 bytes holds it. Definitions, and the law that the type of such numbers asks for.
use Rattle.std.specs.Prelude.{◌≡◌, refl, Bool, true, false, cond, Float, Option, None, Some}
use Rattle.std.specs.Float.Ieee.{eq}
use Rattle.std.proofs.Common.{sym}
use Rattle.floats.specs.Plain.{zero_f}

-- an estimate in such a number: 0 is none
abbrev pub held : Option Float → Float
held None = zero_f
held (Some x) = x

-- and the estimate that such a number stands for
abbrev pub read_of : Float → Option Float
read_of x = cond (eq x zero_f) None (Some x)

-- of the two zeros, only +0.0 is one
abbrev pub OneZero : Float → Type 0
OneZero x = eq x zero_f ≡ true → x ≡ zero_f

-- what is read is held by the same number
pub held_read : (x : Float) → OneZero x → held (read_of x) ≡ x
held_read x one = go (eq x zero_f) refl
  where
    go : (b : Bool) → eq x zero_f ≡ b → held (cond b None (Some x)) ≡ x
    go true q = sym (one q)
    go false q = refl
