-- `region::finite_keys` meets its contract. The loop's invariant: the places of the first i frames are written and those from i on are to come. Assumes nothing.
use Rattle.std.proofs.Common.{map, drop}
use Rattle.floats.specs.Total.{finite_key}
use Rattle.lists.proofs.Fill.{Filling}
use Rattle.region.proofs.finite_keys.Given as goal

abbrev pub invariant-loop-i : goal.invariant-loop-i
invariant-loop-i l = Filling (map finite_key l.db) (map finite_key (drop l.i l.db)) l.initial.keys l.keys l.i
