-- `smooth::extrema::Part::is_shallow` meets its contract. Assumes nothing.
use Rattle.smooth.specs.Extrema.{shallow}
use Rattle.smooth.proofs.extrema.Part.is_shallow.Goals as goal

pub returns : goal.returns
unfolding shallow
returns c = rw (shallow, c.lower-peak.ensures, c.furthest.ensures)
