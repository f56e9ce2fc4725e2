-- `runs::voiced::voiced_runs` meets its contract: the runs come one after the other, by `Running`. Assumes nothing.
use Rattle.std.proofs.Common.{arith}
use Rattle.runs.proofs.Walking.{running_start, running_room, running_on, running_end}
use Rattle.runs.proofs.voiced.voiced_runs.Goals as goal

pub loop-run-init : goal.loop-run-init
loop-run-init c = rw (c.new-runs.ensures, c.into_iter-run-iterator.ensures.into_iter_gives) (running_start _)

pub push-requires : goal.push-requires
push-requires c = (omega arith, omega (arith, running_room _ c.in-Some.ensures.steps c.loop-run.invariant))

pub loop-run-preserved : goal.loop-run-preserved
loop-run-preserved c = rw c.push.ensures.items (running_on _ c.in-Some.ensures.steps c.loop-run.invariant)

pub returns : goal.returns
returns c = running_end _ c.in-None.ensures.steps.0 c.loop-run.invariant
