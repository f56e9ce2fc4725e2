-- Every estimate is a number of Hz from 69 to 517, so from 60 to 600, which the comparisons of pitches take. Assumes nothing.
use mathlib.Core.Path.{◌≡◌, refl, sym, subst}
use Prim.Native.Nat.{ℕ, suc, ◌+◌, ◌-◌, ◌≤◌, ◌<◌}
use native.Mathlib.Nat.{le_trans}
use native.Mathlib.Omega.{arith}
use mathlib.Core.Bool.{Bool, true, false, cond}
use mathlib.Core.List.{List}
use lib.Dec.{T, lit<, lit≤}
use lib.IntN.{ℤ, pos}
use lib.Ieee.{Float, fin, binary64, round, add, mul, div, lt, le, of_int}
use lib.Ieee.Back.{round_whole}
use Rattle.floats.specs.Ratio.{ratio}
use Rattle.floats.specs.Sizes.{Within, Half, FromTo}
use Rattle.floats.proofs.Sizes.{from_to_wider, from_to_le, add_from_to, div_from_to}
use Rattle.std.specs.Prelude.{Option, None, Some}
use Rattle.nsdf.specs.Nsdf.{window}
use Rattle.lists.specs.Frames.{at}
use Rattle.nsdf.specs.Period.{clamped, shift, measured, refined, first_peak, best_peak, by_peak, estimated, period_hz}
use Rattle.nsdf.proofs.Peaks.{measured_at, peak_within}
use Rattle.nsdf.proofs.Bounded.{nsdf_within, shift_number, clamped_half}

-- ---- the refined lag

of_int_lem : (n : ℕ) → of_int binary64 (pos n) ≡ round binary64 false n 1
unfolding of_int
of_int_lem n = refl

lag_between : (k : ℕ) (y : Float) → 0 < k → k < 199 → Half y → FromTo 31 230 (add binary64 (of_int binary64 (pos (31 + k))) y)
lag_between k y g h p =
    let e : 31 + k ≡ suc (30 + k) = omega arith in
    let b : suc (suc (30 + k)) ≤ 230 = omega arith in
    let a : suc (30 + k) ≤ 230 = omega arith in
    from_to_wider (add binary64 (of_int binary64 (pos (31 + k))) y) (30 + k) (suc (suc (30 + k))) 31 230 (omega arith) b
    (rw (of_int_lem, e) (add_from_to binary64 (30 + k) (le_trans b (lit≤ tt)) (round binary64 false (suc (30 + k)) 1) y (round_whole binary64 false (suc (30 + k)) (le_trans a (lit≤ tt))) p))

-- ---- the estimate, from any periodicities that are at most 1 in size

module _ (d : List Float) (small : (k : ℕ) → k < 200 → Within 1 (at d k)) where
  refined_between : (k : ℕ) → 0 < k → k < 199 → FromTo 31 230 (refined d k)
  unfolding refined
  refined_between k g h =
      let s = shift (at d (k - 1)) (at d k) (at d (k + 1)) in
      lag_between k (clamped s) g h (clamped_half s (shift_number (at d (k - 1)) (at d k) (at d (k + 1)) (small (k - 1) (omega arith)) (small (k + 1) (omega arith))))

  peak_between : (least : Float) (p : Option ℕ) (x : Float) → first_peak d least ≡ p → by_peak d p ≡ Some x → FromTo 69 517 x
  peak_between least None x q e = cc
  peak_between least (Some k) x q e =
      let r : div binary64 (ratio binary64 (pos 16000) 1) (refined d k) ≡ x = cc in
      let h = peak_within d least k q in
      subst (FromTo 69 517) r
      (div_from_to binary64 16000 31 230 69 517 (lit< tt) (lit≤ tt) (lit≤ tt) (lit≤ tt) (lit≤ tt) (ratio binary64 (pos 16000) 1) (refined d k)
      (round_whole binary64 false 16000 (lit≤ tt)) (refined_between k h.0 h.1))

  pub estimated_between : (x : Float) → estimated d ≡ Some x → FromTo 69 517 x
  unfolding estimated
  estimated_between x = go (lt (best_peak d) (ratio binary64 (pos 6) 10))
    where
      least : Float
      least = mul binary64 (ratio binary64 (pos 9) 10) (best_peak d)

      go : (t : Bool) → cond t None (by_peak d (first_peak d least)) ≡ Some x → FromTo 69 517 x
      go true e = cc
      go false e = peak_between least (first_peak d least) x refl e

-- ---- the 16-bit samples

pub period_range : (xs : List ℤ) (centre : ℕ) (x : Float) → period_hz xs centre ≡ Some x → T (le (fin false 60 (pos 0)) x) × T (le x (fin false 600 (pos 0)))
unfolding period_hz
period_range xs centre x e =
    let w = window xs centre in
    from_to_le x 60 600
    (from_to_wider x 69 517 60 600 (lit≤ tt) (lit≤ tt) (estimated_between (measured w) (λ k h. subst (Within 1) (sym (measured_at w k h)) (nsdf_within w (31 + k))) x e))
