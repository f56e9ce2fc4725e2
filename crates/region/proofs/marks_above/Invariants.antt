-- `region::marks_above` meets its contract. The loop's invariant: the marks of the first i frames are written and those from i on are to come. Assumes nothing.
use Rattle.std.proofs.Common.{map, drop}
use Rattle.lists.proofs.Fill.{Filling}
use Rattle.region.specs.Speech.{mark, speech_marks}
use Rattle.region.proofs.marks_above.Given as goal

abbrev pub invariant-loop-i : goal.invariant-loop-i
invariant-loop-i l = Filling (speech_marks l.threshold l.db) (map (mark l.threshold) (drop l.i l.db)) l.initial.out l.out l.i
