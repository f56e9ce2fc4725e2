-- `values::is_rising` meets its contract. Assumes nothing.
use Rattle.admit.proofs.Every.{Rising}
use Rattle.admit.proofs.values.is_rising.Given as goal

abbrev pub invariant-loop-x : goal.invariant-loop-x
invariant-loop-x l = Rising l.n l.frames l.good l.lo l.x-index
