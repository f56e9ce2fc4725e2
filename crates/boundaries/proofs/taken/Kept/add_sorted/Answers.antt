-- `boundaries::taken::Kept::add_sorted` meets its contract. The loop's invariant: the frames of the keys from key on are left to try. Assumes nothing.
use native.Mathlib.Omega.{arith}
use Rattle.lists.proofs.Sorting.{sorted_only}
use Rattle.boundaries.proofs.Cells.{trying_start}
use Rattle.boundaries.proofs.Turns.{frame_at, keys_on, keys_end}
use Rattle.boundaries.proofs.taken.Kept.add_sorted.Goals as goal

pub loop-key-init : goal.loop-key-init
loop-key-init c = trying_start _ _

pub try_add-requires : goal.try_add-requires
try_add-requires c = omega (arith, c.frame_of.ensures, frame_at c.sort.new.a (rw (sorted_only c.sort.ensures) c.requires) c.loop-key.key-index c.loop-key-test.true)

pub loop-key-preserved : goal.loop-key-preserved
loop-key-preserved c = keys_on c.sort.new.a c.loop-key.key-index c.loop-key.invariant c.loop-key-test.true c.frame_of.ensures c.try_add.ensures

pub returns : goal.returns
returns c = rw (sorted_only c.sort.ensures) at (keys_end c.sort.new.a c.loop-key.key-index c.loop-key.invariant c.loop-key-test.false)
