-- `boundaries::joints::add_joint` meets its contract. Assumes nothing.
use Rattle.boundaries.specs.Joints.{inner}
use Rattle.boundaries.proofs.Jointly.{two_inside}
use Rattle.boundaries.proofs.joints.add_joint.Goals as goal

pub returns-in-Break : goal.returns-in-Break
returns-in-Break c = rw c.in-Break.is (two_inside (inner c.args.b.start c.args.b.end) _ _ c.add_inside-in-Break.ensures c.add_inside-in-Break-2.ensures)
