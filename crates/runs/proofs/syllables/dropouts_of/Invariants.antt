-- `runs::syllables::dropouts_of` meets its contract: the dropouts come one after the other, by `Gapping`. Assumes nothing.
use Rattle.std.specs.Slice.Iter.{windows_rest, windows_size}
use Rattle.runs.proofs.Syllabic.{Gapping}
use Rattle.runs.proofs.syllables.dropouts_of.Given as goal

abbrev pub invariant-loop-pair : goal.invariant-loop-pair
invariant-loop-pair g l = Gapping l.pitch l.runs l.dropouts.items (windows_rest l.pair-iterator) (windows_size l.pair-iterator)
