-- `boundaries::minima::add_minima` meets its contract. The loop's invariant: the keys so far, with those of the minima from m on, are all. Assumes nothing.
use native.Mathlib.Omega.{arith}
use Prim.Native.Nat.{ℕ}
use mathlib.Core.Path.{◌≡◌, ap, ◌∙◌}
use mathlib.Core.Bool.{not, ◌&&◌}
use mathlib.Core.List.{map}
use lib.ListN.{length}
use Rattle.lists.specs.Candidates.{key_of}
use Rattle.boundaries.specs.Minima.{in_long_span, minima}
use Rattle.boundaries.specs.Taken.{marked, taken_frames}
use Rattle.boundaries.proofs.Turns.{mins_below, minima_keys, minima_keyed, keyed_room, keyed_yes, keyed_no, keyed_end, turn_fits, turn_added}
use Rattle.boundaries.proofs.Whole.{frames_rise, minima_added}
use Rattle.boundaries.proofs.minima.add_minima.Goals as goal
use Rattle.boundaries.proofs.minima.add_minima.Goals.{After-deref_mut, then-spans-i+then-not-skip-i, else-spans-i, else-spans-i-via-then-spans-i+else-not-skip-i, else-spans-i-via-else-spans-i}

pub long_spans-spans-requires : goal.long_spans-spans-requires
long_spans-spans-requires c = rw (c.deref.ensures.0 ∙ c.frames.ensures) (frames_rise c.args.kept.now.marks (length c.args.level.now) c.requires)

pub bounds-spans-i : goal.bounds-spans-i
bounds-spans-i c = omega (arith, mins_below c.args.level.now (c.as_slice-m-items.ensures.value ∙ c.local_extrema.ensures) c.loop-m.m-index c.loop-m-test.true)

pub prominence-requires : goal.prominence-requires
prominence-requires c = mins_below c.args.level.now (c.as_slice-m-items.ensures.value ∙ c.local_extrema.ensures) c.loop-m.m-index c.loop-m-test.true

pub push-requires : goal.push-requires
push-requires c =
    let t = λ (i : ℕ). marked c.long_spans-spans.result i && not (marked c.args.skip.now i) in
    (omega arith, keyed_room c.args.level.now t _ _ _ c.loop-m.invariant c.loop-m-test.true (rw (c.if-spans-i.true, c.if-not-skip-i.true)) c.as_slice-m-items.ensures.fits)

pub loop-m-preserved : goal.loop-m-preserved
loop-m-preserved c =
    let t = λ (i : ℕ). marked c.long_spans-spans.result i && not (marked c.args.skip.now i) in
    let s = c.args.level.now in
    let h = c.loop-m-test.true in
    elim c.if-spans-i.branch [
      | then-spans-i+then-not-skip-i w ↦ rw (w.keys-is, w.push.ensures.items, w.key_of.ensures, w.prominence.ensures) (keyed_yes s t _ _ _ c.loop-m.invariant h (rw (w.if-spans-i.true, w.if-not-skip-i.true)))
      | else-spans-i w ↦ rw w.keys-is (keyed_no s t _ _ _ c.loop-m.invariant h (elim w.else-spans-i.branch [
        | else-spans-i-via-then-spans-i+else-not-skip-i v ↦ rw (v.if-spans-i.true, v.if-not-skip-i.false)
        | else-spans-i-via-else-spans-i v ↦ rw v.if-spans-i.false
      ]))
    ]

-- the keys that are sorted
keys_are : (c : After-deref_mut) → c.deref_mut.result.now ≡ map key_of (minima c.args.level.now (marked c.args.skip.now) (taken_frames c.args.kept.now.marks (length c.args.level.now)))
keys_are c =
    let t = λ (i : ℕ). marked c.long_spans-spans.result i && not (marked c.args.skip.now i) in
    minima_keys c.args.level.now (c.as_slice-m-items.ensures.value ∙ c.local_extrema.ensures) (marked c.args.skip.now) (taken_frames c.args.kept.now.marks (length c.args.level.now))
    (c.long_spans-spans.ensures ∙ ap in_long_span (c.deref.ensures.0 ∙ c.frames.ensures)) (keyed_end c.args.level.now t _ _ _ c.loop-m.invariant c.loop-m-test.false) c.deref_mut.ensures.value

pub add_sorted-requires : goal.add_sorted-requires
add_sorted-requires c = turn_fits (minima_keyed _ _ _ c.requires) (keys_are (goal.at.add_sorted-requires c).After-deref_mut)

pub returns : goal.returns
returns c = minima_added _ _ (turn_added (minima_keyed _ _ _ c.requires) (keys_are (goal.at.returns c).After-deref_mut) c.add_sorted.ensures)
