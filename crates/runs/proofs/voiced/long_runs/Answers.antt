-- `runs::voiced::long_runs` meets its contract: the long runs come one after the other, by `RunningLong`. Assumes nothing.
use native.Mathlib.Omega.{arith}
use borrow.Author.Tests.{le-leb, lt-leb}
use Rattle.runs.proofs.Walking.{running_long_start, running_long_room, running_long_on, running_short, running_long_end}
use Rattle.runs.proofs.voiced.long_runs.Goals as goal

pub loop-run-init : goal.loop-run-init
loop-run-init c = rw (c.new-runs.ensures, c.into_iter-run-iterator.ensures.into_iter_gives) (running_long_start _)

pub push-requires : goal.push-requires
push-requires c =
    (omega arith, omega (arith, running_long_room _ c.in-Some.ensures.steps c.loop-run.invariant (le-leb _ _ c.if-run-ge-MIN_RUN_FRAMES.true)))

pub loop-run-preserved-then-run-ge-MIN_RUN_FRAMES : goal.loop-run-preserved-then-run-ge-MIN_RUN_FRAMES
loop-run-preserved-then-run-ge-MIN_RUN_FRAMES c =
    rw (c.push.ensures.items, c.span.ensures) (running_long_on _ c.in-Some.ensures.steps c.loop-run.invariant (le-leb _ _ c.if-run-ge-MIN_RUN_FRAMES.true))

pub loop-run-preserved : goal.loop-run-preserved
loop-run-preserved c = running_short _ c.in-Some.ensures.steps c.loop-run.invariant (lt-leb _ _ c.if-run-ge-MIN_RUN_FRAMES.false)

pub returns : goal.returns
returns c = running_long_end _ c.in-None.ensures.steps.0 c.loop-run.invariant
