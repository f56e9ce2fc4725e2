-- `smooth::level::inner_means` meets its contract. The means from frame 2 on and before frame i are written. Assumes nothing.
use Prim.Native.Nat.{◌-◌}
use lib.ListN.{length}
use Rattle.lists.proofs.Replaced.{Writing}
use Rattle.smooth.specs.Level.{means}
use Rattle.smooth.proofs.level.inner_means.Given as goal

abbrev pub invariant-loop-i : goal.invariant-loop-i
invariant-loop-i l = Writing (means l.c) l.initial.out 2 (length l.c - 2) l.out l.i
