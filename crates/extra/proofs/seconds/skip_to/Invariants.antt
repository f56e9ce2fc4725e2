-- `extra::seconds::skip_to` meets its contract: the frames from the i-th on serve, so far. Assumes nothing.
use lib.ListN.{drop}
use Rattle.extra.specs.Passing.{Serves}
use Rattle.extra.proofs.seconds.skip_to.Given as goal

abbrev pub invariant-loop-i : goal.invariant-loop-i
invariant-loop-i l = Serves l.kept l.a (drop l.i l.kept)
