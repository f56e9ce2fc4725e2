-- `boundaries::taken::Kept::ends` meets its contract. Assumes nothing.
use mathlib.Core.Path.{refl}
use Rattle.boundaries.proofs.Cells.{ends_one, ends_two}
use Rattle.boundaries.proofs.taken.Kept.ends.Goals as goal

pub returns-then-start-end : goal.returns-then-start-end
returns-then-start-end c = (ends_one c.args.start c.args.end c.args.cap c.if-start-end.true c.requires.0, refl)

pub returns-else-start-end : goal.returns-else-start-end
returns-else-start-end c = (ends_two c.args.start c.args.end c.args.cap c.if-start-end.false c.requires.0 c.requires.1, refl)
