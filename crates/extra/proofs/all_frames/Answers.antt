-- `extra::all_frames` meets its contract: what there is, with what is left of the one list and then of the other, is the whole. Assumes nothing.
use native.Mathlib.Omega.{arith}
use Prim.Native.Nat.{◌≤◌}
use mathlib.Core.Path.{sym, ◌∙◌}
use mathlib.Core.List.{append-nil, ◌++◌, map}
use lib.ListN.{length, length-append, length-map}
use Rattle.lists.specs.Results.{filter}
use Rattle.lists.proofs.Fill.{drop_step, filter_step, filter_over, filter_le}
use Rattle.lists.proofs.Members.{strict_get, strict_few}
use Rattle.runs.proofs.Pushing.{push_room}
use Rattle.nuclei.proofs.Steps.{pick_room, pick_yes, pick_no}
use Rattle.extra.specs.Merging.{mark_at}
use Rattle.extra.specs.Seconds.{frame_of}
use Rattle.extra.proofs.all_frames.Goals as goal
use Rattle.extra.proofs.all_frames.Goals.{then-is_peak-x, else-is_peak-x}

pub bounds-is_peak-x : goal.bounds-is_peak-x
bounds-is_peak-x c = strict_get 0 2048 c.args.kept.now c.loop-x.x-index c.loop-x-test.true c.requires.0

pub push-requires : goal.push-requires
push-requires c =
    let t = mark_at c.args.is_peak.now in
    let kept = c.args.kept.now in
    let few : length (filter t kept) ≤ 2560 = omega (arith, filter_le t kept, strict_few 0 2048 kept (omega arith) c.requires.0) in
    (omega arith, pick_room _ _ _ _ (rw (filter_step t kept c.loop-x.x-index 0 c.loop-x-test.true) at c.loop-x.invariant) c.if-is_peak-x.true few)

pub loop-x-preserved : goal.loop-x-preserved
loop-x-preserved c =
    let s = rw (filter_step (mark_at c.args.is_peak.now) c.args.kept.now c.loop-x.x-index 0 c.loop-x-test.true) at c.loop-x.invariant in
    elim c.if-is_peak-x.branch [
      | then-is_peak-x w ↦ rw (w.frames-is, w.push.ensures.items) (pick_yes _ _ _ _ s w.if-is_peak-x.true)
      | else-is_peak-x w ↦ rw w.frames-is (pick_no _ _ _ _ s w.if-is_peak-x.false)
    ]

pub loop-second-init : goal.loop-second-init
loop-second-init c = rw (sym (append-nil _) ∙ rw (filter_over _ _ _ c.loop-x-test.false) at c.loop-x.invariant)

pub push-requires-in-loop-second : goal.push-requires-in-loop-second
push-requires-in-loop-second c =
    let t = mark_at c.args.is_peak.now in
    let kept = c.args.kept.now in
    let few : length (filter t kept) ≤ 2048 = omega (arith, filter_le t kept, strict_few 0 2048 kept (omega arith) c.requires.0) in
    let all : length (filter t kept ++ map frame_of c.args.seconds.now) ≤ 2560 = simp (length-append, length-map) (omega arith) in
    let s = rw (drop_step c.args.seconds.now c.loop-second.second-index (record { frame = 0; edge = 0 }) c.loop-second-test.true) at c.loop-second.invariant in
    (omega arith, push_room _ _ _ s _ all)
