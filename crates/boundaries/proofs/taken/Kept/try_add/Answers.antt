-- `boundaries::taken::Kept::try_add` meets its contract: the five cells around the frame say whether it is clear. Assumes nothing.
use mathlib.Core.Path.{sym, ◌∙◌}
use Rattle.boundaries.proofs.Cells.{try_full, try_near, try_put}
use Rattle.boundaries.proofs.taken.Kept.try_add.Goals as goal
use Rattle.boundaries.proofs.taken.Kept.try_add.Goals.{else-self-via-then-self+else-not-is_near, else-self-via-else-self}

pub returns-then-not-is_near : goal.returns-then-not-is_near
returns-then-not-is_near c = try_put _ _ c.if-self.true c.requires (sym c.is_near.ensures ∙ c.if-not-is_near.true)

pub returns-else-self : goal.returns-else-self
returns-else-self c =
    elim c.else-self.branch [
      | else-self-via-then-self+else-not-is_near w ↦ try_near _ _ (sym w.is_near.ensures ∙ w.if-not-is_near.false)
      | else-self-via-else-self w ↦ try_full _ _ w.if-self.false
    ]
