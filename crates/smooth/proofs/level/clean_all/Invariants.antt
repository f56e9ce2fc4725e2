-- `smooth::level::clean_all` meets its contract. The first i entries are written. Assumes nothing.
use mathlib.Core.List.{map}
use lib.ListN.{length}
use Rattle.lists.proofs.Replaced.{Writing}
use Rattle.smooth.specs.Level.{clean}
use Rattle.smooth.proofs.level.clean_all.Given as goal

abbrev pub invariant-loop-i : goal.invariant-loop-i
invariant-loop-i l = Writing (map clean l.db) l.initial.c 0 (length l.db) l.c l.i
