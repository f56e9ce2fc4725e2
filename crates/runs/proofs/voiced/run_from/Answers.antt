-- `runs::voiced::run_from` meets its contract: the run grows by `Growing`, until nothing more joins it. Assumes nothing.
use native.Mathlib.Omega.{arith}
use Rattle.runs.proofs.Walking.{growing_start, growing_on, growing_far, growing_over}
use Rattle.runs.proofs.voiced.run_from.Goals as goal

pub loop-i-init : goal.loop-i-init
loop-i-init c = growing_start _ _ (omega arith) c.requires.2

pub loop-i-preserved : goal.loop-i-preserved
loop-i-preserved c = growing_on _ c.loop-i.invariant (omega arith) (omega arith) _ c.extended-run.ensures

pub returns-then-run-i : goal.returns-then-run-i
returns-then-run-i c = growing_far _ c.loop-i.invariant c.if-run-i.true

pub returns : goal.returns
returns c = growing_over _ c.loop-i.invariant (omega arith)
