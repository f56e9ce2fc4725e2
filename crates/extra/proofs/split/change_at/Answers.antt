-- `extra::split::change_at` meets its contract. Assumes nothing.
use mathlib.Core.Path.{◌∙◌}
use Rattle.extra.specs.Split.{change}
use Rattle.extra.proofs.split.change_at.Goals as goal

pub returns : goal.returns
unfolding change
returns c = c.magnitude.ensures ∙ rw (c.mean.ensures, c.mean-2.ensures)
