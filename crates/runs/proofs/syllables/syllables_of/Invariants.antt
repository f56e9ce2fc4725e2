-- `runs::syllables::syllables_of` meets its contract: the syllable runs come one after the other, by `Joining`. Assumes nothing.
use lib.ListN.{drop}
use Rattle.runs.proofs.Syllabic.{Joining}
use Rattle.runs.proofs.syllables.syllables_of.Given as goal

abbrev pub invariant-loop-run : goal.invariant-loop-run
invariant-loop-run g l = Joining l.pitch l.runs (drop l.run-index l.rest) l.syllables.items l.group
