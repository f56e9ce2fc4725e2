-- `runs::syllables::dropouts` meets its contract: the long runs lie in the track, and are no more than its frames. Assumes nothing.
use native.Mathlib.Omega.{arith}
use mathlib.Core.Path.{◌∙◌}
use Rattle.runs.specs.Syllables.{dropouts}
use Rattle.runs.proofs.Spacing.{long_tracked, long_few}
use Rattle.runs.proofs.syllables.dropouts.Goals as goal

pub dropouts_of-requires : goal.dropouts_of-requires
dropouts_of-requires c = rw (c.deref.ensures.0 ∙ c.long_runs.ensures) (omega arith, (long_tracked _, omega (arith, long_few c.args.pitch.now)))

pub returns : goal.returns
unfolding dropouts
returns c = rw (c.deref.ensures.0 ∙ c.long_runs.ensures) at c.dropouts_of.ensures
