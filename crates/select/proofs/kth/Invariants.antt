-- `select::kth` meets its contract. The loop's invariant: the key sought is neither below lo nor above hi. Assumes nothing.
use Prim.Native.Nat.{◌-◌, ◌≤◌}
use lib.ListN.{get_or}
use Rattle.lists.specs.Sorted.{sorted}
use Rattle.select.proofs.kth.Given as goal

abbrev pub invariant-loop-lo : goal.invariant-loop-lo
invariant-loop-lo l = (l.lo ≤ get_or (sorted l.keys) l.k 0) × (get_or (sorted l.keys) l.k 0 ≤ l.hi) × (l.hi ≤ 4294967295)

abbrev pub decreases-loop-lo : goal.decreases-loop-lo
decreases-loop-lo l = l.hi - l.lo
