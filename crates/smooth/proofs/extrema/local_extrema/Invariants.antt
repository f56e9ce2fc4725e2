-- `smooth::extrema::local_extrema` meets its contract. The flat stretch i to j goes on, and the extrema before it are found. Assumes nothing.
use Prim.Native.Nat.{◌-◌}
use lib.ListN.{length}
use Rattle.smooth.proofs.Stretches.{Scan}
use Rattle.smooth.proofs.extrema.local_extrema.Given as goal

abbrev pub invariant-loop-j : goal.invariant-loop-j
invariant-loop-j g l = Scan l.s l.lo l.hi l.kind l.found.items l.i l.j

abbrev pub decreases-loop-j : goal.decreases-loop-j
decreases-loop-j g l = length l.s - l.j
