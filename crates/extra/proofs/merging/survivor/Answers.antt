-- `extra::merging::survivor` meets its contract. Assumes nothing.
use Rattle.extra.specs.Merging.{survivor}
use Rattle.extra.proofs.merging.survivor.Goals as goal

pub returns-then-not-is_peak-prev : goal.returns-then-not-is_peak-prev
unfolding survivor
returns-then-not-is_peak-prev c = rw c.if-not-is_peak-prev.true

pub returns-then-is_peak-x : goal.returns-then-is_peak-x
unfolding survivor
returns-then-is_peak-x c = rw (c.if-not-is_peak-prev.false, c.if-is_peak-x.true) c.louder.ensures

pub returns-else-is_peak-x : goal.returns-else-is_peak-x
unfolding survivor
returns-else-is_peak-x c = rw (c.if-not-is_peak-prev.false, c.if-is_peak-x.false)
