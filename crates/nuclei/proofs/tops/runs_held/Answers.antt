-- `nuclei::tops::runs_held` meets its contract: what is held, with what the frames that are left give, is the whole. Assumes nothing.
use native.Mathlib.Omega.{arith}
use mathlib.Core.Path.{sym, ap, ◌∙◌}
use mathlib.Core.List.{append-nil}
use Rattle.std.specs.Prelude.{is_some}
use Rattle.runs.proofs.Pushing.{push_on}
use Rattle.nuclei.proofs.Steps.{pick_room, held_few, held_step, held_over}
use Rattle.nuclei.proofs.tops.runs_held.Goals as goal
use Rattle.nuclei.proofs.tops.runs_held.Goals.{in-Some, in_default}

pub push-requires : goal.push-requires
push-requires g c =
    let s = rw (held_step _ _ _ c.loop-x-test.true) at c.loop-x.invariant in
    let few = held_few c.args.runs.now c.args.frames.now in
    (omega arith, pick_room _ _ _ _ s (ap is_some (sym c.run_of.ensures ∙ c.in-Some.is)) (omega arith))

pub loop-x-preserved : goal.loop-x-preserved
loop-x-preserved g c =
    let s = rw (held_step _ _ _ c.loop-x-test.true, ← c.run_of.ensures) at c.loop-x.invariant in
    elim c.match-run_of.branch [
      | in-Some w ↦ rw (w.held-is, w.push.ensures.items) (push_on _ _ _ (rw w.in-Some.is at s))
      | in_default w ↦ rw w.held-is (rw w.in_default.is at s)
    ]

pub returns : goal.returns
returns g c = sym (append-nil _) ∙ rw (held_over _ _ _ c.loop-x-test.false) at c.loop-x.invariant
