-- `smooth::level::some_means` meets its contract. The means from frame a on and before frame i are written. Assumes nothing.
use native.Mathlib.Omega.{arith}
use mathlib.Core.Path.{sym, ◌∙◌}
use lib.Ieee.{nan}
use Rattle.smooth.proofs.Averages.{length_means, mean_at}
use Rattle.lists.proofs.Replaced.{write_start, write_more}
use Rattle.smooth.proofs.level.some_means.Goals as goal

pub loop-i-init : goal.loop-i-init
loop-i-init c = write_start _ _ _ _ (omega arith) (omega (arith, length_means c.args.c.now)) (omega arith)

pub loop-i-preserved : goal.loop-i-preserved
loop-i-preserved c =
    let l = c.loop-i in
    write_more _ _ _ _ l.invariant nan _ c.loop-i-test.true (c.mean_around.ensures ∙ sym (mean_at c.args.c.now l.i (omega arith)))
