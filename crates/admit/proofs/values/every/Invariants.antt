-- `values::every` meets its contract. The loop's invariant, whatever test p the closure stands for: what is found so far and the test of what is left make up the whole. Assumes nothing.
use Rattle.std.proofs.Common.{◌≡◌, All}
use Rattle.admit.proofs.Every.{Tested}
use Rattle.admit.proofs.values.every.Given as goal

abbrev pub invariant-loop-x : goal.invariant-loop-x
invariant-loop-x g l = (p : _) → All (λ x. (b : _) → goal.F-post g l.test x b → b ≡ p x) l.xs → Tested p l.xs l.good l.x-index
