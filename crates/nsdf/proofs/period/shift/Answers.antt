-- `shift` meets its contract. Assumes nothing.
use lib.Ieee.{of_bits}
use Rattle.nsdf.proofs.period.shift.Goals as goal

pub returns-then-bend : goal.returns-then-bend
unfolding of_bits
returns-then-bend c = rw c.if-bend.true

pub returns : goal.returns
unfolding of_bits
returns c = rw c.if-bend.false
