-- `marks::tell` meets its contract: the bytes that are held have the text of all that came. Assumes nothing.
use native.Mathlib.Nat.{le_trans}
use native.Mathlib.Omega.{arith}
use mathlib.Core.Path.{ap, ◌∙◌}
use Rattle.take.specs.Listing.{refused_listing}
use Rattle.take.proofs.Sizes.{refused_fits}
use Rattle.marks.proofs.Telling.{longer_told}
use Rattle.marks.proofs.tell.Goals as goal

pub refused-requires : goal.refused-requires
refused-requires c = (omega arith, le_trans (refused_fits _) (omega arith))

pub returns-else-total-file : goal.returns-else-total-file
returns-else-total-file c = λ came h. c.refused.ensures ∙ ap refused_listing (c.number.ensures ∙ c.take_refusal.ensures) ∙ longer_told h (omega arith) c.if-total-file.false
