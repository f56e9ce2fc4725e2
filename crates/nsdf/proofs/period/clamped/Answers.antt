-- `clamped` meets its contract. Assumes nothing.
use lib.Ieee.{of_bits}
use Rattle.nsdf.proofs.period.clamped.Goals as goal

pub returns : goal.returns
unfolding of_bits
returns c = c.clamp.ensures.value
