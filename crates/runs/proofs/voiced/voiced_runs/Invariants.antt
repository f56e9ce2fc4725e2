-- `runs::voiced::voiced_runs` meets its contract: the runs come one after the other, by `Running`. Assumes nothing.
use Rattle.runs.specs.Ahead.{runs_from}
use Rattle.runs.proofs.Walking.{Running}
use Rattle.runs.proofs.voiced.voiced_runs.Given as goal

abbrev pub invariant-loop-run : goal.invariant-loop-run
invariant-loop-run l = Running l.pitch l.runs.items (runs_from l.run-iterator.pitch.now l.run-iterator.at)
