-- `lists::first::skip_blocks` meets its contract. The loop's invariant: what is found from `at` on is what is found from i on. Assumes nothing.
use Prim.Native.Nat.{ℕ, ◌-◌, ◌≤◌, ◌<◌}
use mathlib.Core.Path.{◌≡◌}
use mathlib.Core.Bool.{Bool}
use Rattle.lists.specs.Frames.{first_in}
use Rattle.lists.proofs.first.skip_blocks.Given as goal

abbrev pub invariant-loop-i : goal.invariant-loop-i
invariant-loop-i g l = (l.i ≤ l.at) × ((p : ℕ → Bool) → ((k : ℕ) → l.i ≤ k → k < l.n → (b : _) → goal.F-post g l.test k b → b ≡ p k)
    → first_in p l.at (l.n - l.at) ≡ first_in p l.i (l.n - l.i))

abbrev pub decreases-loop-i : goal.decreases-loop-i
decreases-loop-i g l = l.n - l.at
