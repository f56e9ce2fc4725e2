-- `boundaries::minima::climb_left` meets its contract: from frame i back to l the level does not fall. Assumes nothing.
use Prim.Native.Nat.{◌-◌}
use mathlib.Core.Bool.{not}
use lib.Ieee.{le}
use Rattle.lists.specs.Frames.{at}
use Rattle.lists.proofs.Walks.{SeekingBack}
use Rattle.boundaries.proofs.minima.climb_left.Given as goal

abbrev pub invariant-loop-l : goal.invariant-loop-l
invariant-loop-l l = SeekingBack (λ j. not (le (at l.level j) (at l.level (j - 1)))) l.i (l.l - 1)
