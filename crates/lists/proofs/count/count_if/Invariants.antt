-- `lists::count::count_if` meets its contract. The loop's invariant: n is at most the entries that are passed, and with the count among those left it makes the
-- whole count, whatever test p the closure stands for. Assumes nothing.
use Rattle.std.proofs.Common.{◌≡◌, ◌+◌, ◌≤◌, All, drop}
use Rattle.lists.specs.By.{count_if}
use Rattle.lists.proofs.count.count_if.Given as goal

abbrev pub invariant-loop-x : goal.invariant-loop-x
invariant-loop-x g l = (l.n ≤ l.x-index) × ((p : _) → All (λ x. (b : _) → goal.F-post g l.test x b → b ≡ p x) l.xs → l.n + count_if p (drop l.x-index l.xs) ≡ count_if p l.xs)
