-- `marks::answer` meets its contract, by its parts. Assumes nothing.
use Rattle.input.specs.Held.{pieces_joined}
use Rattle.input.proofs.Adding.{pieces_held}
use Rattle.marks.proofs.Telling.{longer_answered}
use Rattle.marks.proofs.answer.Goals as goal

pub returns-in-Whole-clause-pieces : goal.returns-in-Whole-clause-pieces
returns-in-Whole-clause-pieces g c =
    let s = rw c.in-Whole.is at c.in_ok-total.ensures.pieces in
    (s.0, c.tell.ensures (pieces_joined s.0) (pieces_held s.1))

pub returns-in-Longer-clause-pieces : goal.returns-in-Longer-clause-pieces
returns-in-Longer-clause-pieces g c =
    let s = rw c.in-Longer.is at c.in_ok-total.ensures.pieces in
    (s.0, c.tell-in-Longer.ensures (pieces_joined s.0) (pieces_held s.1))

pub returns-in-Longer-clause-known : goal.returns-in-Longer-clause-known
returns-in-Longer-clause-known g c = longer_answered c.tell-in-Longer.ensures _ (rw c.in-Longer.is at c.in_ok-total.ensures.known)
