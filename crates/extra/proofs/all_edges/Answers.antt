-- `extra::all_edges` meets its contract: what there is, with what is left of the one list and then of the other, is the whole. Assumes nothing.
use Rattle.std.proofs.Common.{arith, refl, sym, ◌∙◌, ◌≡◌, ◌≤◌, ◌||◌, true, false, length, length-append, get_or, map, ◌++◌, append-nil}
use lib.ListN.{length-map}
use Rattle.std.specs.Slice.Iter.{windows_rest}
use Rattle.lists.proofs.Fill.{drop_step}
use Rattle.lists.proofs.Members.{strict_few}
use Rattle.smooth.specs.declared.extrema.Extremum.TheVariants.{Min}
use Rattle.smooth.proofs.Best.{middle_within}
use Rattle.runs.proofs.Pushing.{push_room}
use Rattle.nuclei.proofs.Steps.{pick_room, pick_yes, pick_no}
use Rattle.extra.specs.Merging.{mark_at}
use Rattle.extra.specs.Extra.{edges_between}
use Rattle.extra.proofs.Edging.{between_few, turned, between_over}
use Rattle.extra.specs.Seconds.{edge_of}
use Rattle.extra.proofs.all_edges.Goals as goal
use Rattle.extra.proofs.all_edges.Goals.{Joined-then-is_peak-between, then-is_peak-between-via-then-is_peak-between, then-is_peak-between-via-else-is_peak-between+then-is_peak-between-2}

pub loop-pair-init : goal.loop-pair-init
loop-pair-init c = rw (c.into_iter-pair-iterator.ensures.into_iter_gives, c.windows-pair-items.ensures.size, c.windows-pair-items.ensures.rest, c.clear.ensures) (refl, c.requires.1, refl)

pub overflow_cast-extremum_middle : goal.overflow_cast-extremum_middle
overflow_cast-extremum_middle c =
    let s = c.args.s.now in
    let t = mark_at c.args.is_peak.now in
    let pair = c.in-Some.pair.now in
    let steps = c.in-Some.ensures.steps in
    let g = c.loop-pair.invariant in
    let turn = turned s t (length s) _ (windows_rest c.loop-pair.pair-iterator) pair _ g.0 g.1 steps.1.0 steps.1.1 steps.1.2 in
    omega (arith, c.extremum_middle.ensures, (middle_within Min s (get_or pair 0 0) (get_or pair 1 0) (omega (arith, turn.order.0)) turn.order.1).1)

-- one of the two anchors is a peak
one_peak : (c : Joined-then-is_peak-between) → (mark_at c.args.is_peak.now (get_or c.in-Some.pair.now 0 0) || mark_at c.args.is_peak.now (get_or c.in-Some.pair.now 1 0)) ≡ true
one_peak c =
    elim c.then-is_peak-between.branch [
      | then-is_peak-between-via-then-is_peak-between w ↦ rw w.if-is_peak-between.true
      | then-is_peak-between-via-else-is_peak-between+then-is_peak-between-2 w ↦ rw (w.if-is_peak-between.false, w.if-is_peak-between-2.true)
    ]

pub push-requires : goal.push-requires
push-requires c =
    let s = c.args.s.now in
    let t = mark_at c.args.is_peak.now in
    let pair = c.in-Some.pair.now in
    let steps = c.in-Some.ensures.steps in
    let g = c.loop-pair.invariant in
    let turn = turned s t (length s) _ (windows_rest c.loop-pair.pair-iterator) pair _ g.0 g.1 steps.1.0 steps.1.1 steps.1.2 in
    let now = rw turn.step at g.2 in
    let one = one_peak (goal.at.push-requires c).Joined-then-is_peak-between in
    let kept = c.args.kept.now in
    let few : length (edges_between s t kept) ≤ 2560 = omega (arith, between_few s t kept, strict_few 0 (length s) kept (omega arith) c.requires.1) in
    (omega arith, pick_room _ _ _ _ now one few)

pub loop-pair-preserved-in-loop-pair : goal.loop-pair-preserved-in-loop-pair
loop-pair-preserved-in-loop-pair c =
    let s = c.args.s.now in
    let t = mark_at c.args.is_peak.now in
    let pair = c.in-Some.pair.now in
    let steps = c.in-Some.ensures.steps in
    let g = c.loop-pair.invariant in
    let turn = turned s t (length s) _ (windows_rest c.loop-pair.pair-iterator) pair _ g.0 g.1 steps.1.0 steps.1.1 steps.1.2 in
    let now = rw turn.step at g.2 in
    let one = one_peak (goal.at.loop-pair-preserved-in-loop-pair c).Joined-then-is_peak-between in
    (steps.0 ∙ g.0, turn.rises, rw (c.push.ensures.items, c.extremum_middle.ensures) (pick_yes _ _ _ _ now one))

pub loop-pair-preserved : goal.loop-pair-preserved
loop-pair-preserved c =
    let s = c.args.s.now in
    let t = mark_at c.args.is_peak.now in
    let pair = c.in-Some.pair.now in
    let steps = c.in-Some.ensures.steps in
    let g = c.loop-pair.invariant in
    let turn = turned s t (length s) _ (windows_rest c.loop-pair.pair-iterator) pair _ g.0 g.1 steps.1.0 steps.1.1 steps.1.2 in
    let now = rw turn.step at g.2 in
    let none : (t (get_or pair 0 0) || t (get_or pair 1 0)) ≡ false = rw (c.if-is_peak-between.false, c.if-is_peak-between-2.false) in
    (steps.0 ∙ g.0, turn.rises, pick_no _ _ _ _ now none)

pub loop-second-init : goal.loop-second-init
loop-second-init c =
    let g = c.loop-pair.invariant in
    let over = between_over c.args.s.now (mark_at c.args.is_peak.now) (windows_rest c.loop-pair.pair-iterator) (rw g.0 at c.in-None.ensures.steps.1.0) in
    rw (sym (append-nil _) ∙ rw over at g.2)

pub push-requires-in-loop-second : goal.push-requires-in-loop-second
push-requires-in-loop-second c =
    let t = mark_at c.args.is_peak.now in
    let kept = c.args.kept.now in
    let few : length (edges_between c.args.s.now t kept) ≤ 2048 = omega (arith, between_few c.args.s.now t kept, strict_few 0 (length c.args.s.now) kept (omega arith) c.requires.1) in
    let all : length (edges_between c.args.s.now t kept ++ map edge_of c.args.seconds.now) ≤ 2560 = simp (length-append, length-map) (omega arith) in
    let s = rw (drop_step c.args.seconds.now c.loop-second.second-index (record { frame = 0; edge = 0 }) c.loop-second-test.true) at c.loop-second.invariant in
    (omega arith, push_room _ _ _ s _ all)
