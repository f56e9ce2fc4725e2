-- `lists::first::any_passes` meets its contract. The loop's invariant: what is found so far and the test of what is left make up the whole. Assumes nothing.
use Prim.Native.Nat.{ℕ, ◌+◌, ◌-◌, ◌≤◌, ◌<◌}
use mathlib.Core.Path.{◌≡◌}
use mathlib.Core.Bool.{Bool, ◌||◌}
use lib.Dec.{ltb}
use Rattle.lists.specs.Frames.{some_frame}
use Rattle.lists.proofs.first.any_passes.Given as goal

abbrev pub invariant-loop-k : goal.invariant-loop-k
invariant-loop-k g l = (l.passed + l.j ≤ l.k) × ((p : ℕ → Bool) → ((k : ℕ) → l.j ≤ k → k < l.j + 16 → (b : _) → goal.F-post g l.test k b → b ≡ p k)
    → (ltb 0 l.passed || some_frame p l.k (l.j + 16 - l.k)) ≡ some_frame p l.j 16)
