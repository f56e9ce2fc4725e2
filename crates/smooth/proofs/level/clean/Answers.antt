-- `smooth::level::clean` meets its contract. Assumes nothing.
use mathlib.Core.Path.{sym, ◌∙◌}
use lib.Ieee.{neg, of_bits}
use Rattle.smooth.proofs.level.clean.Goals as goal

pub returns-else-is_finite : goal.returns-else-is_finite
unfolding of_bits neg
returns-else-is_finite c = rw (sym c.is_finite.ensures ∙ c.if-is_finite.false)
