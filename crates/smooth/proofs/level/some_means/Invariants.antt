-- `smooth::level::some_means` meets its contract. The means from frame a on and before frame i are written. Assumes nothing.
use Rattle.lists.proofs.Replaced.{Writing}
use Rattle.smooth.specs.Level.{means}
use Rattle.smooth.proofs.level.some_means.Given as goal

abbrev pub invariant-loop-i : goal.invariant-loop-i
invariant-loop-i l = Writing (means l.c) l.initial.out l.a l.b l.out l.i
