-- The first frame that passes a test, as the library's `find` over a range tells it, and that none passes. Assumes nothing.
use Prim.Native.Nat.{ℕ, zero, suc, ◌+◌, ◌≤◌, ◌<◌}
use native.Mathlib.Nat.{eq-or-lt_of_le}
use native.Mathlib.Omega.{arith}
use mathlib.Core.Path.{◌≡◌, refl, sym, ap}
use mathlib.Core.Bool.{Bool, true, false}
use mathlib.Core.Logic.{⊎_elim}
use Rattle.std.specs.Prelude.{Option, None, Some, MatchOption}
use Rattle.lists.specs.Frames.{some_frame, first_in}
use Rattle.lists.proofs.Walks.{NonePass}

module _ (t : ℕ → Bool) where
  -- where none of the k frames from i on passes, it is not the case that some does
  pub none_passes : (i k : ℕ) → NonePass t i (i + k) → some_frame t i k ≡ false
  unfolding some_frame
  none_passes i zero f = refl
  none_passes i (suc k) f = rw (f i (omega arith) (omega arith)) (none_passes (i + 1) k (λ j a b. f j (omega arith) (omega arith)))

  none_in : (i k : ℕ) → NonePass t i (i + k) → None ≡ first_in t i k
  unfolding first_in
  none_in i zero f = refl
  none_in i (suc k) f = rw (f i (omega arith) (omega arith)) (none_in (i + 1) k (λ j a b. f j (omega arith) (omega arith)))

  some_in : (i k : ℕ) {x : ℕ} → i ≤ x → x < i + k → t x ≡ true → NonePass t i x → Some x ≡ first_in t i k
  unfolding first_in
  some_in i zero l h e f = absurd (omega arith)
  some_in i (suc k) {x} l h e f =
      ⊎_elim {A = i ≡ x} {B = i < x}
      (λ q. let here : t i ≡ true = rw q e in rw here (ap Some (sym q)))
      (λ m. rw (f i (omega arith) m) (some_in (i + 1) k (omega arith) (omega arith) e (λ j a b. f j (omega arith) b)))
      (eq-or-lt_of_le l)

  -- what `find` over the frames from a to before b answers, where these are all n
  pub found_in : (r : Option ℕ) (n : ℕ) {a b : ℕ} → MatchOption r ((k : ℕ) → a ≤ k → k < b → t k ≡ false) (λ i. (a ≤ i) × (i < b) × (t i ≡ true) × ((k : ℕ) → a ≤ k → k < i → t k ≡ false)) → a ≡ 0 → b ≡ n
      → r ≡ first_in t 0 n
  found_in None n f low high = none_in 0 n (λ j x y. f j (omega arith) (omega arith))
  found_in (Some i) n f low high = some_in 0 n (omega arith) (omega arith) f.2 (λ j x y. f.3 j (omega arith) y)
