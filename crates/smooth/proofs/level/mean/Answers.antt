-- `smooth::level::mean` meets its contract. What is summed, with the entries that are left, is the sum of the part. Assumes nothing.
use lib.ListN.{drop_of_length-le}
use Rattle.lists.proofs.Parts.{drop_take}
use Rattle.smooth.proofs.level.mean.Goals as goal

pub returns : goal.returns
returns c =
    let a = c.args in
    let e = rw (drop_of_length-le _ c.loop-x-test.false) at c.loop-x.invariant in
    rw (drop_take a.a a.b a.xs.now, ← e) c.plain_zero.ensures
