-- The edges between neighbouring anchors, a step at a time. Assumes nothing.
use Prim.Native.Nat.{ℕ, ◌+◌, ◌<◌, ◌≤◌}
use native.Mathlib.Omega.{arith}
use mathlib.Core.Path.{◌≡◌, refl}
use mathlib.Core.Bool.{Bool, ◌||◌}
use mathlib.Core.List.{List, [], ◌∷◌}
use lib.ListN.{length, get_or, take, drop}
use lib.Ieee.{Float}
use Rattle.lists.specs.Results.{cons_if}
use Rattle.lists.specs.Sorted.{StrictlyRises}
use Rattle.lists.proofs.Fill.{length_cons_if}
use Rattle.lists.proofs.Members.{strict_from}
use Rattle.smooth.specs.Extrema.{argmin_middle}
use Rattle.extra.specs.Extra.{edges_between}

module _ (s : List Float) (peak : ℕ → Bool) where
  pub between_few : (kept : List ℕ) → length (edges_between s peak kept) ≤ length kept
  unfolding edges_between
  between_few [] = omega arith
  between_few (a ∷ []) = omega arith
  between_few (a ∷ b ∷ bs) = length_cons_if (peak a || peak b) (argmin_middle s a b) (edges_between s peak (b ∷ bs)) (between_few (b ∷ bs))

  -- a step of the walk over windows of two: `pair` is lent, and `after` is left then
  pub record Turned (n : ℕ) (left pair after : List ℕ) : Type 0 where
    pub order : (get_or pair 0 0 < get_or pair 1 0) × (get_or pair 1 0 < n)
    pub step : edges_between s peak left ≡ cons_if (peak (get_or pair 0 0) || peak (get_or pair 1 0)) (argmin_middle s (get_or pair 0 0) (get_or pair 1 0)) (edges_between s peak after)
    pub rises : StrictlyRises 0 n after

  pub turned : (n size : ℕ) (left pair after : List ℕ) → size ≡ 2 → StrictlyRises 0 n left → size ≤ length left → pair ≡ take size left → after ≡ drop 1 left → Turned n left pair after
  unfolding edges_between
  turned n size left pair after e r h q f = go left (omega (arith, e, h)) (rw e at q) f r
    where
      go : (xs : List ℕ) → 2 ≤ length xs → pair ≡ take 2 xs → after ≡ drop 1 xs → StrictlyRises 0 n xs → Turned n xs pair after
      go [] k q f r = absurd (omega arith)
      go (a ∷ []) k q f r = absurd (omega arith)
      go (a ∷ b ∷ xs) k q f r = record {
        order = rw q (omega (arith, r.2.0), r.2.1);
        step = rw (q, f) refl;
        rises = rw f (strict_from 0 (a + 1) n (b ∷ xs) (omega arith) r.2);
      }

  pub between_over : (left : List ℕ) → length left < 2 → edges_between s peak left ≡ []
  unfolding edges_between
  between_over [] h = refl
  between_over (a ∷ []) h = refl
  between_over (a ∷ b ∷ bs) h = absurd (omega arith)
