-- `round` keeps what the format holds and never makes a NaN, over the format; so does `narrow`. Assumes nothing.
use mathlib.Core.Path.{◌≡◌, refl, sym, ap, ◌∙◌, subst}
use mathlib.Core.Bool.{Bool, true, false, not, ◌&&◌, cond}
use Prim.Native.Nat.{ℕ, zero, suc, ◌+◌, ◌-◌, ◌*◌, ◌/◌, ◌%◌, ◌^◌, ◌≤◌, ◌<◌}
use native.Mathlib.Nat.{le_trans, le_of_eq, le_of_suc-le-suc, lt_of_not-le, not-le_of_lt, mul-one, mul_comm, mul_assoc, mul_right_comm, mul-le-mul_right, mul-lt-mul_of_pos_right, mul-pos, zero-mul}
use native.Mathlib.Omega.{arith}
use lib.Dec.{T, leb, ltb, eqb, leb→le, ltb→lt, eqb→eq}
use lib.IntN.{ℤ, pos, negsuc}
use lib.Pow.{pow-add, pow_pos, pow-lt}
use lib.Ieee.{Float, nan, inf, fin, Format, binary32, prec, emax, low, up, down, odd, units, round, fits, is_nan}
use lib.Ieee.Digits.{back}
use lib.Ieee.Exact.{round_exact}
use lib.Ieee.Fits.{and_l, and_r, up_pos, down_pos, round-fits, nan-fits, inf-fits}
use lib.Ieee.Nearest.{closest}
use Rattle.floats.specs.Narrow.{narrow}
use Rattle.floats.proofs.Pattern.{dropped, round_units, same_value}

-- ---- what the format asks of a finite value: few digits, none of them finer than its smallest value, and a size below infinity's
pub record Held (f : Format) (m : ℕ) (e : ℤ) : Type 0 where
  pub digits : m < 2 ^ prec f
  pub finest : down e ≤ 2 ^ low f
  pub size : m * up e < 2 ^ suc (emax f) * down e

pub held : (f : Format) (s : Bool) (m : ℕ) (e : ℤ) → T (fits f (fin s m e)) → Held f m e
unfolding fits
held f s zero e h = record {
  digits = pow_pos (prec f);
  finest = omega (arith, eqb→eq (up e * down e) 1 h, mul-le-mul_right (down e) (up_pos e), pow_pos (low f));
  size = rw (zero-mul (up e)) (mul-pos (pow_pos (suc (emax f))) (down_pos e));
}
held f s (suc m) e h =
    let A = eqb (suc m % 2) 1 in
    let B = ltb (suc m) (2 ^ prec f) in
    let C = leb (down e) (2 ^ low f) in
    let D = ltb (suc m * up e) (2 ^ suc (emax f) * down e) in
    record {
      digits = ltb→lt (suc m) (2 ^ prec f) (and_r A B (and_l (A && B) C (and_l (A && B && C) D h)));
      finest = leb→le (down e) (2 ^ low f) (and_r (A && B) C (and_l (A && B && C) D h));
      size = ltb→lt (suc m * up e) (2 ^ suc (emax f) * down e) (and_r (A && B && C) D h);
    }

-- ---- it is m * 2 ^ places of the smallest ones
abbrev places : Format → ℤ → ℕ
places f (pos k) = k + low f
places f (negsuc k) = low f - suc k

pub pow_le_back : (i j : ℕ) → 2 ^ i ≤ 2 ^ j → i ≤ j
pow_le_back i j h = le_of_suc-le-suc (lt_of_not-le (λ (g : suc j ≤ i). not-le_of_lt (pow-lt g) h))

in_units_lem : (f : Format) (m : ℕ) (e : ℤ) → down e ≤ 2 ^ low f → m * up e * 2 ^ low f ≡ m * 2 ^ places f e * down e
in_units_lem f m (pos k) h = mul_assoc m (2 ^ k) (2 ^ low f) ∙ ap (λ (z : ℕ). m * z) (sym (pow-add 2 k (low f))) ∙ sym (mul-one (m * 2 ^ (k + low f)))
in_units_lem f m (negsuc k) h =
    ap (λ (z : ℕ). z * 2 ^ low f) (mul-one m)
    ∙ ap (λ (z : ℕ). m * z) (ap (λ (j : ℕ). 2 ^ j) (sym (back (low f) (suc k) (pow_le_back (suc k) (low f) h))) ∙ pow-add 2 (low f - suc k) (suc k))
    ∙ sym (mul_assoc m (2 ^ (low f - suc k)) (2 ^ suc k))

in_range : (f : Format) (m : ℕ) (e : ℤ) → down e ≤ 2 ^ low f → m * up e < 2 ^ suc (emax f) * down e → m * 2 ^ places f e < 2 ^ (low f + suc (emax f))
in_range f m e h l =
    let E = 2 ^ suc (emax f) in
    let L = 2 ^ low f in
    let X : E * down e * L ≡ 2 ^ (low f + suc (emax f)) * down e = mul_right_comm E (down e) L ∙ ap (λ (z : ℕ). z * down e) (mul_comm E L ∙ sym (pow-add 2 (low f) (suc (emax f)))) in
    lt_of_not-le
    (λ (g : 2 ^ (low f + suc (emax f)) ≤ m * 2 ^ places f e).
    not-le_of_lt (mul-lt-mul_of_pos_right l (pow_pos (low f))) (le_trans (le_of_eq X) (le_trans (mul-le-mul_right (down e) g) (le_of_eq (sym (in_units_lem f m e h))))))

-- ---- so `round` changes nothing there
pub round_keeps : (f : Format) (s : Bool) (m : ℕ) (e : ℤ) → T (fits f (fin s m e)) → round f s (m * up e) (down e) ≡ fin s m e
round_keeps f s m e h =
    let k = held f s m e h in
    same_value f (round f s (m * up e) (down e)) (fin s m e) s (m * up e) (down e) (down_pos e) (round-fits f s (m * up e) (down e)) h
    (round_exact f s (m * up e) (down e) m (places f e) (down_pos e) k.digits (in_range f m e k.finest k.size) (in_units_lem f m e k.finest))
    (refl, refl)

-- ---- a rounded fraction is no NaN
pub round_no_nan : (f : Format) (s : Bool) (a c : ℕ) → T (not (is_nan (round f s a c)))
unfolding is_nan units odd
round_no_nan f s a c =
    let k = dropped f (a * 2 ^ low f / c) in
    let q = closest (a * 2 ^ low f) (c * 2 ^ k) in
    subst (λ (v : Float). T (not (is_nan v))) (sym (round_units f s a c k q refl refl)) (pick (ltb (q * 2 ^ k) (2 ^ (low f + suc (emax f)))) (odd (suc (prec f)) s q k (low f)) (odd_too q k))
  where
    odd_too : (q k : ℕ) → T (not (is_nan (odd (suc (prec f)) s q k (low f))))
    odd_too zero k = tt
    odd_too (suc q) k = tt

    pick : (t : Bool) (v : Float) → T (not (is_nan v)) → T (not (is_nan (cond t v (inf s))))
    pick true v h = h
    pick false v h = tt

-- ---- `narrow`
pub narrow_round : (s : Bool) (m : ℕ) (e : ℤ) → narrow (fin s m e) ≡ round binary32 s (m * up e) (down e)
unfolding narrow
narrow_round s m e = refl

pub narrow_keeps : (x : Float) → T (fits binary32 x) → narrow x ≡ x
unfolding narrow
narrow_keeps nan h = refl
narrow_keeps (inf s) h = refl
narrow_keeps (fin s m e) h = round_keeps binary32 s m e h

pub narrow_fits : (x : Float) → T (fits binary32 (narrow x))
unfolding narrow
narrow_fits nan = nan-fits binary32
narrow_fits (inf s) = inf-fits binary32 s
narrow_fits (fin s m e) = round-fits binary32 s (m * up e) (down e)

pub narrow_nan : narrow nan ≡ nan
unfolding narrow
narrow_nan = refl

pub narrow_no_nan : (x : Float) → T (not (is_nan x)) → T (not (is_nan (narrow x)))
unfolding narrow is_nan
narrow_no_nan nan h = h
narrow_no_nan (inf s) h = tt
narrow_no_nan (fin s m e) h = round_no_nan binary32 s (m * up e) (down e)
