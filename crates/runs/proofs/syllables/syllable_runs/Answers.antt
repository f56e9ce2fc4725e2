-- `runs::syllables::syllable_runs` meets its contract: the long runs lie in the track, and are no more than its frames. Assumes nothing.
use native.Mathlib.Omega.{arith}
use mathlib.Core.Path.{◌∙◌}
use Rattle.runs.specs.Syllables.{syllable_runs}
use Rattle.runs.proofs.Spacing.{long_tracked, long_few}
use Rattle.runs.proofs.syllables.syllable_runs.Goals as goal

pub syllables_of-requires : goal.syllables_of-requires
syllables_of-requires c = rw (c.deref.ensures.0 ∙ c.long_runs.ensures) (omega arith, (long_tracked _, omega (arith, long_few c.args.pitch.now)))

pub returns : goal.returns
unfolding syllable_runs
returns c = rw (c.deref.ensures.0 ∙ c.long_runs.ensures) at c.syllables_of.ensures
