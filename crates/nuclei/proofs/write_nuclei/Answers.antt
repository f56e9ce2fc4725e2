-- `nuclei::write_nuclei` meets its contract: what the frames from i on give is to come. Assumes nothing.
use native.Mathlib.Omega.{arith}
use mathlib.Core.Path.{◌≡◌}
use lib.ListN.{length, drop_of_length-le}
use Rattle.lists.proofs.Fill.{fill_push, fill_end, drop_step}
use Rattle.nuclei.proofs.write_nuclei.Goals as goal

pub loop-i-preserved : goal.loop-i-preserved
loop-i-preserved c =
    let g = c.loop-i.invariant in
    let e = drop_step c.args.kept.now c.loop-i.i 0 c.loop-i-test.true in
    (fill_push (rw e at g.0), fill_push (rw e at g.1))

pub returns : goal.returns
returns c =
    let e = drop_of_length-le c.args.kept.now c.loop-i-test.false in
    let k : length c.args.kept.now ≡ c.loop-i.i = omega arith in
    rw k (fill_end (rw e at c.loop-i.invariant.0), fill_end (rw e at c.loop-i.invariant.1))
