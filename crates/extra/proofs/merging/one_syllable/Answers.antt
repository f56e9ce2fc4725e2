-- `extra::merging::one_syllable` meets its contract. Assumes nothing.
use borrow.Author.Tests.{lt-ltb, le-ltb}
use Rattle.extra.specs.Merging.{one_syllable}
use Rattle.extra.proofs.merging.one_syllable.Goals as goal
use Rattle.extra.proofs.merging.one_syllable.Goals.{then-is_peak-prev-via-then-is_peak-prev, then-is_peak-prev-via-else-is_peak-prev+then-is_peak-x}

pub returns-then-x-prev : goal.returns-then-x-prev
unfolding one_syllable
returns-then-x-prev c =
    elim c.then-is_peak-prev.branch [
      | then-is_peak-prev-via-then-is_peak-prev w ↦ rw (w.if-is_peak-prev.true, lt-ltb _ _ c.if-x-prev.true)
      | then-is_peak-prev-via-else-is_peak-prev+then-is_peak-x w ↦ rw (w.if-is_peak-prev.false, w.if-is_peak-x.true, lt-ltb _ _ c.if-x-prev.true)
    ]

pub returns-else-x-prev : goal.returns-else-x-prev
unfolding one_syllable
returns-else-x-prev c =
    elim c.then-is_peak-prev.branch [
      | then-is_peak-prev-via-then-is_peak-prev w ↦ rw (w.if-is_peak-prev.true, le-ltb _ _ c.if-x-prev.false) c.is_shallow.ensures
      | then-is_peak-prev-via-else-is_peak-prev+then-is_peak-x w ↦ rw (w.if-is_peak-prev.false, w.if-is_peak-x.true, le-ltb _ _ c.if-x-prev.false) c.is_shallow.ensures
    ]

pub returns : goal.returns
unfolding one_syllable
returns c = rw (c.if-is_peak-prev.false, c.if-is_peak-x.false)
