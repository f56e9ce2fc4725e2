-- `runs::syllables::breaks_from` meets its contract, by that of the test of two pitches. Assumes nothing.
use Rattle.runs.specs.Syllables.{breaks_from}
use Rattle.runs.proofs.syllables.breaks_from.Goals as goal

pub returns : goal.returns
unfolding breaks_from
returns c = c.breaks_any.ensures
