-- `extra::split::is_better` meets its contract. Assumes nothing.
use native.Mathlib.Omega.{arith}
use mathlib.Core.Path.{◌∙◌}
use lib.Ieee.{of_bits, round}
use borrow.Author.Tests.{le-leb}
use Rattle.extra.specs.Split.{abs_diff}
use Rattle.extra.proofs.split.is_better.Goals as goal

pub returns-then-change : goal.returns-then-change
unfolding of_bits round
returns-then-change c = rw (le-leb 3 (abs_diff c.args.k c.args.nucleus) (omega arith), c.if-change.true)

pub returns-else-change : goal.returns-else-change
unfolding of_bits round
returns-else-change c = c.if-change.false ∙ rw (le-leb 3 (abs_diff c.args.k c.args.nucleus) (omega arith), c.if-change.false)
