-- `boundaries::boundaries_with` meets its contract. Assumes nothing.
use Rattle.lists.proofs.Fill.{listed_take}
use Rattle.boundaries.proofs.Whole.{level_listed}
use Rattle.boundaries.proofs.boundaries_with.Goals as goal

pub returns : goal.returns
returns c = rw (listed_take (level_listed c.args.db.now c.smoothed_db.ensures), c.speech_threshold.ensures) at c.boundaries_over.ensures
