-- `boundaries::joints::joint_of` meets its contract. Assumes nothing.
use native.Mathlib.Omega.{arith}
use mathlib.Core.Path.{sym, ◌∙◌}
use borrow.Author.Tests.{ne_eqb, eq-eqb}
use Rattle.boundaries.proofs.Jointly.{found_within, joint_none, joint_lone, joint_both}
use Rattle.boundaries.proofs.joints.joint_of.Goals.{else-x-y-via-then-x-y+else-is_shallow, else-x-y-via-else-x-y}
use Rattle.boundaries.proofs.joints.joint_of.Goals as goal

pub returns-in_default : goal.returns-in_default
returns-in_default c = joint_none _ _ _ _ _ (sym c.run_of.ensures ∙ c.in_default.is) c.lowest_joint.ensures

pub returns-in_default-run_of : goal.returns-in_default-run_of
returns-in_default-run_of c = joint_lone _ _ _ _ _ (sym c.run_of.ensures ∙ c.in-Some.is) (sym c.run_of-2.ensures ∙ c.in_default-run_of.is) c.lowest_joint-in_default-run_of.ensures

pub overflow_add-result : goal.overflow_add-result
overflow_add-result c = omega (arith, found_within _ _ _ _ c.requires.in_track.0 (sym c.run_of.ensures ∙ c.in-Some.is))

pub returns-then-is_shallow : goal.returns-then-is_shallow
returns-then-is_shallow c =
    sym (joint_both _ _ _ _ _ (sym c.run_of.ensures ∙ c.in-Some.is) (sym c.run_of-2.ensures ∙ c.in-Some-run_of.is)
    ∙ rw (ne_eqb _ _ c.if-x-y.true, sym c.is_shallow.ensures ∙ c.if-is_shallow.true))

pub returns : goal.returns
returns c =
    c.lowest_joint-2.ensures
    ∙ sym (joint_both _ _ _ _ _ (sym c.run_of.ensures ∙ c.in-Some.is) (sym c.run_of-2.ensures ∙ c.in-Some-run_of.is)
    ∙ elim c.else-x-y.branch [
      | else-x-y-via-then-x-y+else-is_shallow w ↦ rw (ne_eqb _ _ w.if-x-y.true, sym w.is_shallow.ensures ∙ w.if-is_shallow.false)
      | else-x-y-via-else-x-y w ↦ rw (eq-eqb _ _ w.if-x-y.false)
    ])
