-- A zero by its bits and as a whole number, over the format; and the size of a value and the value with a plain zero, by the tests of a value against zero. Assumes nothing.
use mathlib.Core.Path.{◌≡◌, refl, sym, ap, ◌∙◌}
use mathlib.Core.Bool.{Bool, true, false, true≢false, false≢true, ◌&&◌, ◌||◌, beq, cond}
use Prim.Native.Nat.{ℕ, zero, suc, ◌+◌, ◌*◌, ◌<◌}
use native.Mathlib.Nat.{zero-lt-suc, mul-pos, zero-mul}
use native.Mathlib.Omega.{arith}
use lib.IntN.{ℤ, pos, negsuc}
use lib.Dec.{T, eqb, ltb, eqb→eq}
use borrow.Author.Tests.{lt-ltb, le-ltb, ltb-true, ne_eqb}
use lib.Ieee.{Float, nan, inf, fin, Format, binary32, binary64, top, eq, lt, up, down, of_bits, of_int, fits}
use lib.Ieee.Fits.{up_pos, down_pos}
use lib.Ieee.Positive.{positive}
use Rattle.std.specs.Float.{float_with_sign}
use Rattle.std.proofs.Common.{pow-suc}
use Rattle.floats.specs.Plain.{zero_f, magnitude, plain_zero}

-- ---- where the pattern is 0 but for the sign, and where the number is
pub zero_bits : (f : Format) (s : Bool) → of_bits f (cond s (top f) 0) ≡ fin s 0 (pos 0)
unfolding of_bits
zero_bits binary32 true = refl
zero_bits binary32 false = refl
zero_bits binary64 true = refl
zero_bits binary64 false = refl

pub zero_int : (f : Format) → of_int f (pos 0) ≡ zero_f
unfolding of_int
zero_int binary32 = refl
zero_int binary64 = refl

-- ---- what the tests say of a number
flat : (a b : ℕ) → 0 * a * b ≡ 0
flat a b = ap (λ (z : ℕ). z * b) (zero-mul a) ∙ zero-mul b

above : (m : ℕ) (e : ℤ) → 0 < suc m * up e * down (pos 0)
above m e = mul-pos (mul-pos (zero-lt-suc m) (up_pos e)) (down_pos (pos 0))

not_equal : (s : Bool) (m : ℕ) (e : ℤ) → eq (fin s (suc m) e) zero_f ≡ false
unfolding eq
not_equal s m e = ap (λ (t : Bool). t && (beq s false || eqb a 0)) (ne_eqb a b (differ a b (above m e) (flat (up (pos 0)) (down e))))
  where
    a : ℕ
    a = suc m * up e * down (pos 0)

    b : ℕ
    b = 0 * up (pos 0) * down e

    differ : (x y : ℕ) → 0 < x → y ≡ 0 → x ≡ y → ⊥
    differ x y h z e = omega arith

pub zero_equal : (s : Bool) (e : ℤ) → eq (fin s zero e) zero_f ≡ true
unfolding eq
zero_equal s e = go s (0 * up e * down (pos 0)) (0 * up (pos 0) * down e) (flat (up e) (down (pos 0))) (flat (up (pos 0)) (down e))
  where
    like : (t : Bool) → (true && (beq t false || true)) ≡ true
    like true = refl
    like false = refl

    go : (t : Bool) (a b : ℕ) → a ≡ 0 → b ≡ 0 → (eqb a b && (beq t false || eqb a 0)) ≡ true
    go t a b p q = ap (λ (z : ℕ). eqb z b && (beq t false || eqb z 0)) p ∙ ap (λ (z : ℕ). eqb 0 z && (beq t false || true)) q ∙ like t

negative : (m : ℕ) (e : ℤ) → lt (fin true (suc m) e) zero_f ≡ true
unfolding lt
negative m e = lt-ltb 0 (a + b) (more a b (above m e))
  where
    a : ℕ
    a = suc m * up e * down (pos 0)

    b : ℕ
    b = 0 * up (pos 0) * down e

    more : (x y : ℕ) → 0 < x → 0 < x + y
    more x y h = omega arith

not_negative : (m : ℕ) (e : ℤ) → lt (fin false m e) zero_f ≡ false
unfolding lt
not_negative m e = none (m * up e * down (pos 0)) (0 * up (pos 0) * down e) (flat (up (pos 0)) (down e))
  where
    none : (a b : ℕ) → b ≡ 0 → ltb a b ≡ false
    none a b z = le-ltb a b (omega arith)

-- what is below 0, and what is above, is not 0
pub below_not_zero : (x : Float) → lt x zero_f ≡ true → eq x zero_f ≡ false
unfolding lt
below_not_zero nan h = absurd (false≢true h)
below_not_zero (inf s) h = unfold eq in refl
below_not_zero (fin s (suc m) e) h = not_equal s m e
below_not_zero (fin false zero e) h = absurd (true≢false (sym h ∙ not_negative zero e))
below_not_zero (fin true zero e) h = absurd (none (0 * up e * down (pos 0)) (0 * up (pos 0) * down e) (flat (up e) (down (pos 0))) (flat (up (pos 0)) (down e)) (ltb-true _ _ h))
  where
    none : (a b : ℕ) → a ≡ 0 → b ≡ 0 → 0 < a + b → ⊥
    none a b p q l = omega arith

pub positive_not_zero : (x : Float) → T (positive x) → eq x zero_f ≡ false
positive_not_zero nan p = absurd p
positive_not_zero (inf s) p = absurd p
positive_not_zero (fin true m e) p = absurd p
positive_not_zero (fin false zero e) p = absurd p
positive_not_zero (fin false (suc m) e) p = not_equal false m e

-- ---- the size: of an f32 that is zero, the one zero without a sign
pub unsigned : (x : Float) → T (fits binary32 x) → float_with_sign false x ≡ magnitude x
unfolding float_with_sign fits
unsigned nan h = refl
unsigned (inf s) h = refl
unsigned (fin s (suc m) e) h = refl
unsigned (fin s zero (pos zero)) h = refl
unsigned (fin s zero (pos (suc k))) h = let e = eqb→eq (up (pos (suc k)) * down (pos (suc k))) 1 h in absurd (omega (arith, pow-suc 2 k, e))
unsigned (fin s zero (negsuc k)) h = let e = eqb→eq (up (negsuc k) * down (negsuc k)) 1 h in absurd (omega (arith, pow-suc 2 k, e))

-- ---- a plain zero
pub zero_plain : (x : Float) → eq x zero_f ≡ true → zero_f ≡ plain_zero x
zero_plain nan h = absurd (false≢true (unfold eq in h))
zero_plain (inf s) h = absurd (false≢true (unfold eq in h))
zero_plain (fin s zero e) h = refl
zero_plain (fin s (suc m) e) h = absurd (true≢false (sym h ∙ not_equal s m e))

pub other_plain : (x : Float) → eq x zero_f ≡ false → x ≡ plain_zero x
other_plain nan h = refl
other_plain (inf s) h = refl
other_plain (fin s zero e) h = absurd (true≢false (sym (zero_equal s e) ∙ h))
other_plain (fin s (suc m) e) h = refl
