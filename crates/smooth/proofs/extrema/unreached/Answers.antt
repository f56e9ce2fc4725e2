-- `smooth::extrema::unreached` meets its contract. Assumes nothing.
use lib.Ieee.{of_bits}
use Rattle.smooth.proofs.extrema.unreached.Goals as goal

pub returns-in-Max : goal.returns-in-Max
unfolding of_bits
returns-in-Max c = rw c.in-Max.is

pub returns-in-Min : goal.returns-in-Min
unfolding of_bits
returns-in-Min c = rw c.in-Min.is
