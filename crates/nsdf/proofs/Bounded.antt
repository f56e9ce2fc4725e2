-- Every periodicity is a number from -1 to 1; what a parabola through three of them shifts a lag by is a number, and at most 1/2 when it is clamped. Assumes nothing.
use mathlib.Core.Path.{◌≡◌, refl, sym}
use Prim.Native.Nat.{ℕ, zero, suc, ◌*◌, ◌≤◌, zero-le, suc-le-suc}
use native.Mathlib.Nat.{le_trans, le_of_eq, one-mul}
use native.Mathlib.Omega.{arith}
use mathlib.Core.Bool.{Bool, true, false, cond, true≢false}
use mathlib.Core.List.{List}
use borrow.Author.Tests.{ltb-false}
use lib.Dec.{T, eqb-suc-zero, lit<, lit≤}
use lib.IntN.{ℤ, pos, negsuc, nat_abs, ◌*ℤ◌}
use lib.ListN.{drop}
use lib.Ieee.{Float, nan, inf, fin, binary64, up, down, sub, mul, div, neg, lt, le, is_nan}
use lib.Ieee.Scale.{finite}
use Rattle.floats.specs.Plain.{zero_f, half}
use Rattle.floats.specs.Ratio.{negative}
use Rattle.floats.specs.Sizes.{Within, Half}
use Rattle.floats.proofs.Less.{lt_left}
use Rattle.floats.proofs.Numbers.{finite_number, div_number}
use Rattle.floats.proofs.Sizes.{within_finite, within_le, round_within, sub_within, half_within}
use Rattle.floats.proofs.Zeros.{below_not_zero}
use Rattle.nsdf.specs.Nsdf.{cross, power, normalised, nsdf}
use Rattle.nsdf.specs.Period.{bend, shift, clamped}
use Rattle.nsdf.proofs.Whole.{abs_mul}
use Rattle.nsdf.proofs.Summing.{cross_le}

-- ---- the periodicity

pub nsdf_within : (w : List ℤ) (lag : ℕ) → Within 1 (nsdf w lag)
unfolding nsdf
nsdf_within w lag = go (cross w (drop lag w)) (power w (drop lag w)) (cross_le w (drop lag w))
  where
    go : (z : ℤ) (e : ℕ) → 2 * nat_abs z ≤ e → Within 1 (normalised z e)
    go z zero h = zero-le
    go z (suc e) h =
        rw (eqb-suc-zero e)
        (round_within binary64 (negative (pos 2 *ℤ z)) (nat_abs (pos 2 *ℤ z)) (suc e) 1 (suc-le-suc zero-le) (lit≤ tt)
        (le_trans (le_of_eq (abs_mul (pos 2) z)) (le_trans h (le_of_eq (sym (one-mul (suc e)))))))

pub nsdf_range : (w : List ℤ) (lag : ℕ) → T (le (fin true 1 (pos 0)) (nsdf w lag)) × T (le (nsdf w lag) (fin false 1 (pos 0)))
nsdf_range w lag = within_le (nsdf w lag) 1 (lit< tt) (nsdf_within w lag)

-- ---- the shift

pub shift_number : (a b c : Float) → Within 1 a → Within 1 c → is_nan (shift a b c) ≡ false
unfolding is_nan
shift_number a b c A C = go (lt (bend a b c) zero_f) refl
  where
    go : (t : Bool) → lt (bend a b c) zero_f ≡ t → is_nan (cond t (div binary64 (mul binary64 half (sub binary64 a c)) (bend a b c)) zero_f) ≡ false
    go true h =
        let top = mul binary64 half (sub binary64 a c) in
        let t : finite top ≡ true = within_finite top 1 (half_within binary64 (sub binary64 a c) 1 (lit≤ tt) (sub_within binary64 a c 1 1 (lit≤ tt) A C)) in
        div_number binary64 top (bend a b c) (finite_number top t) (lt_left (bend a b c) zero_f h) (rw t) (below_not_zero (bend a b c) h)
    go false h = refl

clamp_fin : (x : Float) → is_nan x ≡ false → lt x (neg half) ≡ false → lt half x ≡ false → Half x
unfolding lt is_nan neg
clamp_fin nan p g h = absurd (true≢false p)
clamp_fin (inf true) p g h = absurd (true≢false g)
clamp_fin (inf false) p g h = absurd (true≢false h)
clamp_fin (fin false m e) p g h = omega (arith, ltb-false (1 * up (negsuc 0) * down e) (m * up e * down (negsuc 0)) h)
clamp_fin (fin true m e) p g h = omega (arith, ltb-false (1 * up (negsuc 0) * down e) (m * up e * down (negsuc 0)) g)

pub clamped_half : (x : Float) → is_nan x ≡ false → Half (clamped x)
unfolding neg
clamped_half x p = go (lt x (neg half)) (lt half x) (clamp_fin x p)
  where
    go : (s t : Bool) → (s ≡ false → t ≡ false → Half x) → Half (cond s (neg half) (cond t half x))
    go true t h = lit≤ tt
    go false true h = lit≤ tt
    go false false h = h refl refl
