-- `smooth::extrema::Part::furthest` meets its contract. The furthest so far, with the frames that are left, gives the furthest of the part. Assumes nothing.
use Rattle.std.proofs.Common.{◌+◌}
use lib.ListN.{drop_of_length-le}
use Rattle.lists.proofs.Parts.{drop_take}
use Rattle.smooth.specs.Extrema.{furthest}
use Rattle.smooth.proofs.extrema.Part.furthest.Goals as goal

pub returns : goal.returns
unfolding furthest
returns c =
    let a = c.args.self in
    rw (drop_take a.a (a.b + 1) a.s.now) (rw (drop_of_length-le _ c.loop-x-test.false) at c.loop-x.invariant)
