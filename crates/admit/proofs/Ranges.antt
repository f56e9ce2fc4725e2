-- The constants of the code are the numbers of the definitions, and what the test of a pitch says. Assumes nothing.
use Prim.Native.Nat.{ℕ}
use mathlib.Core.Path.{◌≡◌, refl, sym, ◌∙◌, ap, ap₂}
use mathlib.Core.Bool.{true, false, ◌&&◌}
use mathlib.Core.Logic.{◌⊎◌, inl, inr}
use borrow.Author.Tests.{eqb-true}
use lib.Dec.{T, eqb}
use lib.Ieee.{Float, binary32, of_bits, of_int, to_bits, fits}
use Rattle.floats.specs.Plain.{is_between}
use Rattle.floats.specs.Total.{value_of, placed}
use Rattle.floats.proofs.Order.{value_back}
use Rattle.floats.proofs.Zeros.{zero_bits, zero_int}
use Rattle.lists.proofs.Tests.{or_cases}
use Rattle.powers.specs.Pitch.{PitchOrNone}
use Rattle.powers.proofs.Ranges.{in_range}
use Rattle.powers.proofs.UnitLaws.{bound_below, bound_above}
use Rattle.admit.specs.Values.{number, pitch_admitted}

-- ---- the constants
pub n0 : of_bits binary32 0 ≡ number 0
n0 = zero_bits binary32 false ∙ sym (zero_int binary32)

pub n1 : of_bits binary32 1065353216 ≡ number 1
unfolding of_bits of_int
n1 = refl

pub n20 : of_bits binary32 1101004800 ≡ number 20
unfolding of_bits of_int
n20 = refl

pub n40 : of_bits binary32 1109393408 ≡ number 40
unfolding of_bits of_int
n40 = refl

pub n200 : of_bits binary32 1128792064 ≡ number 200
unfolding of_bits of_int
n200 = refl

pub n1000 : of_bits binary32 1148846080 ≡ number 1000
unfolding of_bits of_int
n1000 = refl

pub n2000 : of_bits binary32 1157234688 ≡ number 2000
unfolding of_bits of_int
n2000 = refl

pub n4000 : of_bits binary32 1165623296 ≡ number 4000
unfolding of_bits of_int
n4000 = refl

-- ---- what the repair asks of a pitch; an f32 whose bits are those of +0.0 is +0.0
pub repairable_is : (x : Float) → T (fits binary32 x) → pitch_admitted (number 40) (number 2000) x ≡ true → PitchOrNone 40 2000 x
unfolding pitch_admitted of_int
repairable_is x f h = go (or_cases (eqb (to_bits binary32 x) 0) (is_between (number 40) (number 2000) x) h)
  where
    go : (eqb (to_bits binary32 x) 0 ≡ true) ⊎ (is_between (number 40) (number 2000) x ≡ true) → PitchOrNone 40 2000 x
    go (inl e) = inl (sym (value_back x f) ∙ ap (λ (b : ℕ). value_of (placed b)) (eqb-true (to_bits binary32 x) 0 e) ∙ zero_bits binary32 false)
    go (inr e) = inr (in_range 40 2000 x (sym (ap₂ ◌&&◌ (bound_below 5 3 x) (bound_above 125 4 x)) ∙ e))
