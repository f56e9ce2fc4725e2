-- `extra::seconds::seconds_of` meets its contract: the runs and the kept frames are walked together, by `Walking`. Assumes nothing.
use lib.ListN.{length}
use Rattle.extra.proofs.Holding.{Walking}
use Rattle.extra.proofs.seconds.seconds_of.Given as goal

abbrev pub invariant-loop-run : goal.invariant-loop-run
invariant-loop-run g l = Walking l.son l.kept (length l.son) l.runs l.found.items l.rest l.run-index
