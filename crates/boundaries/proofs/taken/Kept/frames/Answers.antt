-- `boundaries::taken::Kept::frames` meets its contract. The loop's invariant: the frames so far, with the kept ones from x on, are all. Assumes nothing.
use native.Mathlib.Omega.{arith}
use mathlib.Core.Path.{sym, ◌∙◌}
use mathlib.Core.List.{append-nil}
use Prim.Native.Nat.{ℕ, ◌+◌}
use Rattle.lists.proofs.Fill.{keep_over, keep_fits}
use Rattle.runs.proofs.Pushing.{push_room, push_on}
use Rattle.boundaries.specs.Taken.{marked}
use Rattle.boundaries.proofs.Cells.{frame_yes, frame_no}
use Rattle.boundaries.proofs.taken.Kept.frames.Goals as goal
use Rattle.boundaries.proofs.taken.Kept.frames.Goals.{then-self-x, else-self-x}

pub push-requires : goal.push-requires
push-requires c =
    let t = λ (x : ℕ). marked c.args.self.now.marks (x + 2) in
    (omega arith, push_room _ _ _ (frame_yes t (c.args.n + 1) _ _ c.loop-x-test.true c.loop-x.invariant c.if-self-x.true) _ (omega (arith, keep_fits t 0 (c.args.n + 1))))

pub loop-x-preserved : goal.loop-x-preserved
loop-x-preserved c =
    let t = λ (x : ℕ). marked c.args.self.now.marks (x + 2) in
    elim c.if-self-x.branch [
      | then-self-x w ↦ rw (w.frames-is, w.push.ensures.items) (push_on _ _ _ (frame_yes t (c.args.n + 1) _ _ c.loop-x-test.true c.loop-x.invariant w.if-self-x.true))
      | else-self-x w ↦ rw w.frames-is (frame_no t (c.args.n + 1) _ _ c.loop-x-test.true c.loop-x.invariant w.if-self-x.false)
    ]

pub returns : goal.returns
returns c =
    let t = λ (x : ℕ). marked c.args.self.now.marks (x + 2) in
    sym (append-nil c.loop-x.frames.items) ∙ (rw (keep_over t _ _ c.loop-x-test.false) at c.loop-x.invariant)
