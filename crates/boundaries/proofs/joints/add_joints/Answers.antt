-- `boundaries::joints::add_joints` meets its contract. The loop's invariant: the joints of what the iterator has left are left to try. Assumes nothing.
use Rattle.boundaries.proofs.Jointly.{joining_start, pair_rises, joining_on, joining_end}
use native.Mathlib.Omega.{arith}
use mathlib.Core.Path.{◌≡◌, ◌∙◌}
use lib.ListN.{length}
use Rattle.runs.proofs.Spacing.{spaced_within, syllable_spaced, syllable_few}
use Rattle.runs.specs.Syllables.{syllable_runs}
use Rattle.boundaries.proofs.joints.add_joints.Goals as goal

pub loop-pair-init : goal.loop-pair-init
loop-pair-init c =
    let w = c.windows-pair-items.ensures in
    rw c.into_iter-pair-iterator.ensures.into_iter_gives (joining_start _ _ _ _ _ _ _ _ w.rest w.size c.requires)

pub joint_of-requires : goal.joint_of-requires
joint_of-requires c =
    let t = c.args.t in
    let same : length t.level.now ≡ length t.pitch.now = omega arith in
    record {
      fits = omega arith;
      in_track = rw (c.deref.ensures.0 ∙ c.syllable_runs-runs.ensures, same)
          (spaced_within 0 (length t.pitch.now) (syllable_runs t.pitch.now) (syllable_spaced t.pitch.now), omega (arith, syllable_few t.pitch.now));
    }

pub invariant_of-between : goal.invariant_of-between
invariant_of-between c =
    let s = c.in-Some.ensures.steps in
    let n = pair_rises _ _ _ _ _ _ _ c.loop-pair.invariant s.0 s.1.0 s.1.1 s.1.2 in
    record { inside = (n.0, omega arith) }

pub loop-pair-preserved : goal.loop-pair-preserved
loop-pair-preserved c =
    let s = c.in-Some.ensures.steps in
    joining_on _ _ _ _ _ _ _ c.loop-pair.invariant s.0 s.1.0 s.1.1 s.1.2 (c.joint_of.ensures ∙ rw (c.deref.ensures.0, c.syllable_runs-runs.ensures)) c.add_joint.ensures

pub returns : goal.returns
returns c = joining_end _ _ _ _ _ _ _ c.loop-pair.invariant c.in-None.ensures.steps.1.0
