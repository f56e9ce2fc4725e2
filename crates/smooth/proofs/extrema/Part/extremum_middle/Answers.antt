-- `smooth::extrema::Part::extremum_middle` meets its contract. Assumes nothing.
use mathlib.Core.Path.{◌∙◌}
use Rattle.smooth.proofs.Best.{middle_is}
use Rattle.smooth.proofs.extrema.Part.extremum_middle.Goals as goal

pub returns : goal.returns
returns c = c.middle.ensures ∙ middle_is _ _ _ _ _ _ c.first_best-best.ensures.0 c.flat_last.ensures.0
