-- `stretches::recover_stretches` meets its contract: before frame s the track is settled. Assumes nothing.
use Prim.Native.Nat.{◌-◌}
use lib.ListN.{length}
use Rattle.recover.proofs.Settling.{Settled}
use Rattle.recover.proofs.stretches.recover_stretches.Given as goal

abbrev pub invariant-loop-s : goal.invariant-loop-s
invariant-loop-s l = Settled l.given l.estimates l.pitch l.s

abbrev pub decreases-loop-s : goal.decreases-loop-s
decreases-loop-s l = length l.estimates - l.s
