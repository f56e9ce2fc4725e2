-- Samples that are all alike repeat fully at every lag that leaves a pair, so no lag is a peak, and there is no estimate. Assumes nothing.
use mathlib.Core.Path.{◌≡◌, refl, sym, ap, ◌∙◌}
use Prim.Native.Nat.{ℕ, zero, suc, ◌+◌, ◌-◌, ◌*◌, ◌≤◌, ◌<◌, min, zero-le, suc-le-suc}
use native.Mathlib.Nat.{mul-one, one-mul, suc-mul, mul-pos, zero-mul, mul-le-mul_right, le_of_suc-le-suc, not-suc-le-zero, sub-zero, zero-sub, suc-sub-suc, zero-min, min-zero, suc-min-suc}
use native.Mathlib.Omega.{arith}
use mathlib.Core.Bool.{false, cond}
use mathlib.Core.List.{[]}
use borrow.Author.Tests.{ne_eqb}
use lib.Dec.{eqb, eqb-suc-zero, lit<}
use lib.IntN.{ℤ, pos}
use lib.ListN.{take, drop, replicate}
use lib.Ieee.{Float, fin, binary64, round, lt}
use lib.Ieee.Scale.{round_same}
use Rattle.floats.specs.Ratio.{ratio}
use Rattle.lists.specs.Results.{keep}
use Rattle.lists.proofs.Fill.{keep_over, keep_pass}
use Rattle.std.specs.Prelude.{None}
use Rattle.nsdf.specs.Nsdf.{square, cross, power, normalised, nsdf, window}
use Rattle.nsdf.specs.Period.{measured, is_peak, best_peak, estimated, period_hz}
use Rattle.nsdf.proofs.Whole.{square_is}
use Rattle.nsdf.proofs.Peaks.{measured_at}

-- ---- the window

take_steady : (b n : ℕ) (v : ℤ) → take b (replicate n v) ≡ replicate (min b n) v
take_steady zero n v = rw zero-min
take_steady (suc b) zero v = rw min-zero
take_steady (suc b) (suc n) v = rw (suc-min-suc, take_steady b n v)

drop_steady : (a n : ℕ) (v : ℤ) → drop a (replicate n v) ≡ replicate (n - a) v
drop_steady zero n v = rw sub-zero
drop_steady (suc a) zero v = rw zero-sub
drop_steady (suc a) (suc n) v = rw suc-sub-suc (drop_steady a n v)

window_steady : (n : ℕ) (v : ℤ) (centre : ℕ) → window (replicate n v) centre ≡ replicate (min (centre + 256) n - (centre - 256)) v
unfolding window
window_steady n v centre = rw (take_steady (centre + 256) n v) (drop_steady (centre - 256) (min (centre + 256) n) v)

-- ---- the sums: each pair adds the square to the products, and twice the square to the power

cross_steady : (a b : ℕ) (v : ℤ) → b ≤ a → cross (replicate a v) (replicate b v) ≡ pos (b * square v)
unfolding cross
cross_steady zero zero v h = rw zero-mul
cross_steady (suc a) zero v h = rw zero-mul
cross_steady zero (suc b) v h = absurd (not-suc-le-zero h)
cross_steady (suc a) (suc b) v h = rw (square_is v, cross_steady a b v (le_of_suc-le-suc h)) (ap pos (step (square v) (b * square v) (suc b * square v) (suc-mul b (square v))))
  where
    step : (s t u : ℕ) → u ≡ t + s → s + t ≡ u
    step s t u e = omega arith

power_steady : (a b : ℕ) (v : ℤ) → b ≤ a → power (replicate a v) (replicate b v) ≡ 2 * (b * square v)
unfolding power
power_steady zero zero v h = rw zero-mul
power_steady (suc a) zero v h = rw zero-mul
power_steady zero (suc b) v h = absurd (not-suc-le-zero h)
power_steady (suc a) (suc b) v h = rw (power_steady a b v (le_of_suc-le-suc h)) (step (square v) (b * square v) (suc b * square v) (suc-mul b (square v)))
  where
    step : (s t u : ℕ) → u ≡ t + s → s + s + 2 * t ≡ 2 * u
    step s t u e = omega arith

-- ---- the periodicity: 1 where there is energy, else 0

abbrev full : ℕ → Float
full c = cond (eqb c 0) (fin false 0 (pos 0)) (ratio binary64 (pos 1) 1)

normalised_full : (c : ℕ) → normalised (pos c) (2 * c) ≡ full c
normalised_full zero = refl
normalised_full (suc c) =
    rw (ne_eqb (2 * suc c) 0 (some c), eqb-suc-zero c)
    (round_same binary64 false (2 * suc c) (2 * suc c) 1 1 (mul-pos (lit< tt) (suc-le-suc zero-le)) (lit< tt) (mul-one (2 * suc c) ∙ sym (one-mul (2 * suc c))))
  where
    some : (c : ℕ) → 2 * suc c ≡ 0 → ⊥
    some c e = omega arith

nsdf_steady : (m : ℕ) (v : ℤ) (lag : ℕ) → nsdf (replicate m v) lag ≡ full ((m - lag) * square v)
unfolding nsdf
nsdf_steady m v lag =
    rw (drop_steady lag m v, cross_steady m (m - lag) v (omega arith), power_steady m (m - lag) v (omega arith)) (normalised_full ((m - lag) * square v))

-- ---- it never rises from a lag to the next

not_above : (x y : ℕ) → y ≤ x → lt (full x) (full y) ≡ false
unfolding lt round
not_above zero zero h = refl
not_above (suc x) zero h = rw (eqb-suc-zero x)
not_above zero (suc y) h = absurd (not-suc-le-zero h)
not_above (suc x) (suc y) h = rw (eqb-suc-zero x, eqb-suc-zero y)

no_peak : (m : ℕ) (v : ℤ) (k : ℕ) → 0 < k → k < 199 → is_peak (measured (replicate m v)) k ≡ false
no_peak m v k g h =
    rw (
      measured_at (replicate m v) (k - 1) (omega arith),
      measured_at (replicate m v) k (omega arith),
      nsdf_steady m v (31 + (k - 1)),
      nsdf_steady m v (31 + k),
      not_above ((m - (31 + (k - 1))) * square v) ((m - (31 + k)) * square v) (mul-le-mul_right (square v) (omega arith)),
    )

pub period_steady : (n : ℕ) (v : ℤ) (centre : ℕ) → period_hz (replicate n v) centre ≡ None
unfolding period_hz estimated best_peak lt round
period_steady n v centre =
    let m = min (centre + 256) n - (centre - 256) in
    let peak = is_peak (measured (replicate m v)) in
    let none : keep peak 1 198 ≡ [] = keep_pass peak 1 198 199 (λ k g h. no_peak m v k g (omega arith)) ∙ keep_over peak 199 199 (omega arith) in
    rw (window_steady n v centre, none)
