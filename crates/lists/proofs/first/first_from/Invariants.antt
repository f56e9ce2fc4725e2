-- `lists::first::first_from` meets its contract. The loop's invariant: what is found from `at` on is what is found from i on. Assumes nothing.
use Prim.Native.Nat.{ℕ, ◌-◌, ◌≤◌, ◌<◌}
use mathlib.Core.Path.{◌≡◌}
use mathlib.Core.Bool.{Bool}
use Rattle.lists.specs.Frames.{first_in}
use Rattle.lists.proofs.first.first_from.Given as goal

abbrev pub invariant-loop-at : goal.invariant-loop-at
invariant-loop-at g l = (l.i ≤ l.at) × ((p : ℕ → Bool) → ((k : ℕ) → l.i ≤ k → k < l.n → (b : _) → goal.F-post g l.test k b → b ≡ p k)
    → first_in p l.at (l.n - l.at) ≡ first_in p l.i (l.n - l.i))
