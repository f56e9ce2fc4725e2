-- `boundaries::minima::prominence` meets its contract. Assumes nothing.
use Rattle.boundaries.specs.Minima.{prominence_at}
use Rattle.boundaries.proofs.minima.prominence.Goals as goal

pub returns : goal.returns
unfolding prominence_at
returns c = rw (c.lower.ensures, c.climb_left-l.ensures.0, c.climb_right-r.ensures.0)
