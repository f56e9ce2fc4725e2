-- `extra::seconds::skip_to` meets its contract: the frames from the i-th on serve, so far. Assumes nothing.
use Rattle.std.proofs.Common.{arith}
use Rattle.lists.proofs.Fill.{drop_step}
use Rattle.extra.proofs.Holding.{serves_all, serves_past, left_at, left_none}
use Rattle.extra.proofs.seconds.skip_to.Goals as goal

pub loop-i-init : goal.loop-i-init
loop-i-init c = serves_all _ _ c.requires

pub loop-i-preserved : goal.loop-i-preserved
loop-i-preserved c = serves_past c.loop-i.invariant _ _ (drop_step c.args.kept.now c.loop-i.i 0 c.loop-i-test.true) (omega arith)

pub returns-then-least-f : goal.returns-then-least-f
returns-then-least-f c = left_at c.loop-i.invariant c.loop-i-test.true (omega arith)

pub returns : goal.returns
returns c = left_none c.loop-i.invariant c.loop-i-test.false
