-- `values::is_rising` meets its contract. Assumes nothing.
use Rattle.admit.proofs.Every.{rising_turn, rising_end}
use Rattle.admit.proofs.values.is_rising.Goals as goal

pub loop-x-preserved : goal.loop-x-preserved
loop-x-preserved c = rising_turn c.loop-x-test.true c.loop-x.invariant c.is_frame-good.ensures c.after-lo.ensures

pub returns : goal.returns
returns c = rising_end c.loop-x-test.false c.loop-x.invariant
