-- `boundaries::minima::climb_right` meets its contract: from frame i on to r the level does not fall. Assumes nothing.
use Prim.Native.Nat.{◌+◌, ◌-◌}
use mathlib.Core.Bool.{not}
use lib.ListN.{length}
use lib.Ieee.{le}
use Rattle.lists.specs.Frames.{at}
use Rattle.lists.proofs.Walks.{Seeking}
use Rattle.boundaries.proofs.minima.climb_right.Given as goal

abbrev pub invariant-loop-r : goal.invariant-loop-r
invariant-loop-r l = Seeking (λ j. not (le (at l.level j) (at l.level (j + 1)))) l.i (length l.level - 1) l.r
