-- `boundaries::edges::add_edges` meets its contract. The loop's invariant: the keys so far, with those of the edges from frame i on, are all. Assumes nothing.
use native.Mathlib.Omega.{arith}
use mathlib.Core.Path.{sym, ◌∙◌}
use Rattle.boundaries.proofs.Turns.{keying_start, keying_room, keying_yes, keying_no, keying_keys, turn_fits, turn_added}
use Rattle.boundaries.proofs.edges.add_edges.Goals as goal
use Rattle.boundaries.proofs.edges.add_edges.Goals.{then-is_here, else-is_here}

pub loop-i-init : goal.loop-i-init
loop-i-init g c = rw c.new-keys.ensures (keying_start _ _ _ _)

pub push-requires : goal.push-requires
push-requires g c = (omega arith, keying_room _ _ _ _ _ _ c.loop-i.invariant c.loop-i-test.true (sym c.is_here.ensures ∙ c.if-is_here.true) (omega arith))

pub loop-i-preserved : goal.loop-i-preserved
loop-i-preserved g c =
    elim c.if-is_here.branch [
      | then-is_here w ↦ rw (w.keys-is, w.push.ensures.items, w.key.ensures) (keying_yes _ _ _ _ _ _ c.loop-i.invariant c.loop-i-test.true (sym c.is_here.ensures ∙ w.if-is_here.true))
      | else-is_here w ↦ rw w.keys-is (keying_no _ _ _ _ _ _ c.loop-i.invariant c.loop-i-test.true (sym c.is_here.ensures ∙ w.if-is_here.false))
    ]

pub add_sorted-requires : goal.add_sorted-requires
add_sorted-requires g c = turn_fits c.requires.keyed (keying_keys _ _ _ _ _ _ c.loop-i.invariant c.loop-i-test.false c.deref_mut.ensures.value)

pub returns : goal.returns
returns g c = turn_added c.requires.keyed (keying_keys _ _ _ _ _ _ c.loop-i.invariant c.loop-i-test.false c.deref_mut.ensures.value) c.add_sorted.ensures
