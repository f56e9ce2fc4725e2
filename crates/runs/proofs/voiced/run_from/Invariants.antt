-- `runs::voiced::run_from` meets its contract: the run grows by `Growing`, until nothing more joins it. Assumes nothing.
use Rattle.runs.proofs.Walking.{Growing}
use Rattle.runs.proofs.voiced.run_from.Given as goal

abbrev pub invariant-loop-i : goal.invariant-loop-i
invariant-loop-i l = Growing l.pitch l.f l.run l.i
