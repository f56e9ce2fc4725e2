-- `values::every` meets its contract. Assumes nothing.
use Rattle.std.proofs.Common.{subst}
use Rattle.admit.proofs.Every.{tested_start, tested_turn, tested_end}
use Rattle.admit.proofs.values.every.Goals as goal

pub loop-x-init : goal.loop-x-init
loop-x-init g c = λ p h. tested_start

pub loop-x-preserved : goal.loop-x-preserved
loop-x-preserved g c = λ p h.
    let x = c.x-item.result in
    let called = subst (λ (y : g.row.T.Denot). g.F.Fn.post c.args.test (y, tt) c.test-good.result) c.x-item.is c.test-good.ensures in
    tested_turn x c.loop-x-test.true (c.loop-x.invariant p h) (h c.loop-x.x-index x c.loop-x-test.true c.test-good.result called)

pub returns : goal.returns
returns g c = λ p h. tested_end c.loop-x-test.false (c.loop-x.invariant p h)
