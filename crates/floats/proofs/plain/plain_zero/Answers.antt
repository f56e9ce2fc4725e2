-- `floats::plain::plain_zero` meets its contract. Assumes nothing.
use lib.Ieee.{of_bits}
use Rattle.floats.proofs.Zeros.{zero_plain, other_plain}
use Rattle.floats.proofs.plain.plain_zero.Goals as goal

pub returns-then-x : goal.returns-then-x
unfolding of_bits
returns-then-x c = zero_plain c.args.x c.if-x.true

pub returns-else-x : goal.returns-else-x
unfolding of_bits
returns-else-x c = other_plain c.args.x c.if-x.false
