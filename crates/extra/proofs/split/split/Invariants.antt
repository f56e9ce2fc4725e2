-- `extra::split::split` meets its contract: the best split before frame k is found, by `Cutting`. Assumes nothing.
use Rattle.extra.proofs.Cuts.{Cutting}
use Rattle.extra.proofs.split.split.Given as goal

abbrev pub invariant-loop-k : goal.invariant-loop-k
invariant-loop-k l = Cutting l.son l.fn.run l.nucleus l.best l.most l.k
