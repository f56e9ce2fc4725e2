-- `runs::near::run_of` meets its contract: the search goes on from the nearest run so far, by `Searching`. Assumes nothing.
use Rattle.runs.proofs.Nearest.{Searching}
use Rattle.runs.proofs.near.run_of.Given as goal

abbrev pub invariant-loop-k : goal.invariant-loop-k
invariant-loop-k l = Searching l.at l.runs l.best l.d l.k
