-- `boundaries::joints::add_inside` meets its contract. Assumes nothing.
use Rattle.boundaries.proofs.Jointly.{tried_inside, left_out, right_out}
use Rattle.boundaries.proofs.joints.add_inside.Goals.{else-b-i-via-then-b-i+else-i-b, else-b-i-via-else-b-i}
use Rattle.boundaries.proofs.joints.add_inside.Goals as goal

pub returns-then-i-b : goal.returns-then-i-b
returns-then-i-b c = tried_inside _ _ _ c.if-b-i.true c.if-i-b.true c.try_add.ensures

pub returns-else-b-i : goal.returns-else-b-i
returns-else-b-i c =
    elim c.else-b-i.branch [
      | else-b-i-via-then-b-i+else-i-b w ↦ right_out _ _ _ _ w.if-b-i.true w.if-i-b.false
      | else-b-i-via-else-b-i w ↦ left_out _ _ _ _ w.if-b-i.false
    ]
