-- `Measured::refined` meets its contract. Assumes nothing.
use Rattle.nsdf.specs.Period.{refined}
use Rattle.nsdf.proofs.period.Measured.refined.Goals as goal

pub returns : goal.returns
unfolding refined
returns c = rw (c.clamped.ensures, c.shift-by.ensures)
