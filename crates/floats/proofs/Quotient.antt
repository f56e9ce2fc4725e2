-- A whole number that a format holds is cast without loss, and the quotient of two is their fraction rounded once. Assumes nothing.
use mathlib.Core.Path.{◌≡◌, refl, sym, ap, ◌∙◌, subst}
use Prim.Native.Nat.{ℕ, zero, suc, ◌*◌, ◌^◌, ◌≤◌, ◌<◌, zero-le, suc-le-suc}
use native.Mathlib.Nat.{mul-one, mul_comm, mul_assoc, mul_left_comm, mul-pos, zero-mul, lt_irrefl}
use mathlib.Core.Bool.{Bool, true, false}
use lib.Dec.{T, le→leb, lt→ltb, eqb-suc-zero}
use lib.IntN.{ℤ, pos, negsuc, nat_abs}
use lib.Ieee.{Float, nan, inf, fin, Format, prec, up, down, round, div, of_int, in_float, unlike}
use lib.Ieee.Exact.{HasValue}
use lib.Ieee.Back.{round_whole}
use lib.Ieee.Fits.{up_pos, down_pos}
use lib.Ieee.Scale.{round_same}
use Rattle.floats.specs.Ratio.{ratio}

-- a whole number that a format holds is cast without loss
pub in_float_lem : (f : Format) (z : ℤ) → nat_abs z ≤ 2 ^ prec f → T (in_float f z)
unfolding in_float
in_float_lem f (pos n) h = le→leb n (2 ^ prec f) h
in_float_lem f (negsuc n) h = lt→ltb n (2 ^ prec f) h

unlike_false : (s : Bool) → unlike s false ≡ s
unlike_false true = refl
unlike_false false = refl

-- from the two values to the two fractions
cross_multiplied : (M N a b De Dd : ℕ) → M * 1 ≡ a * De → N * 1 ≡ b * Dd → M * Dd * b ≡ a * (N * De)
cross_multiplied M N a b De Dd p q =
    let p' : M ≡ a * De = sym (mul-one M) ∙ p in
    let q' : N ≡ b * Dd = sym (mul-one N) ∙ q in
    rw (p', q') (simp (mul_assoc, mul_comm, mul_left_comm))

-- x is a and y is b, so x / y is a / b, rounded
div_values : (f : Format) (s : Bool) (x y : Float) (a b : ℕ) → 0 < b → HasValue x s a 1 → HasValue y false b 1 → div f x y ≡ round f s a b
unfolding div
div_values f s nan y a b B v w = absurd v
div_values f s (inf t) y a b B v w = absurd v
div_values f s (fin t m e) nan a b B v w = absurd w
div_values f s (fin t m e) (inf u) a b B v w = absurd w
div_values f s (fin t m e) (fin u zero d) a b B v w =
    absurd (lt_irrefl 0 (subst (λ (z : ℕ). 0 < z) (sym w.1 ∙ ap (λ (z : ℕ). z * 1) (zero-mul (up d))) (mul-pos B (down_pos d))))
div_values f s (fin t m e) (fin u (suc n) d) a b B v w =
    rw (eqb-suc-zero n, v.0, w.0, unlike_false s)
    (round_same f s (m * up e * down d) (suc n * up d * down e) a b (mul-pos (mul-pos (suc-le-suc zero-le) (up_pos d)) (down_pos e)) B
    (cross_multiplied (m * up e) (suc n * up d) a b (down e) (down d) v.1 w.1))

pub div_ratio : (f : Format) (z : ℤ) (b : ℕ) → nat_abs z ≤ 2 ^ prec f → b ≤ 2 ^ prec f → 0 < b → div f (of_int f z) (of_int f (pos b)) ≡ ratio f z b
unfolding of_int
div_ratio f (pos a) b A B P = div_values f false (round f false a 1) (round f false b 1) a b P (round_whole f false a A) (round_whole f false b B)
div_ratio f (negsuc a) b A B P = div_values f true (round f true (suc a) 1) (round f false b 1) (suc a) b P (round_whole f true (suc a) A) (round_whole f false b B)
