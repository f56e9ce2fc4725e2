-- `region::finite_keys` meets its contract. Assumes nothing.
use lib.Ieee.{nan}
use Rattle.floats.specs.Total.{finite_key}
use Rattle.lists.proofs.Fill.{fill_map, fill_map_over}
use Rattle.region.proofs.finite_keys.Goals as goal

pub loop-i-preserved : goal.loop-i-preserved
loop-i-preserved c = rw c.finite_key.ensures (fill_map finite_key c.args.db.now c.loop-i.i nan c.loop-i-test.true c.loop-i.invariant)

pub returns : goal.returns
returns c = (fill_map_over finite_key c.args.db.now c.loop-i.i c.loop-i-test.false c.loop-i.invariant).entries
