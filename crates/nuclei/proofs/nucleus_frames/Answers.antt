-- `nuclei::nucleus_frames` meets its contract: the candidates over the long runs are merged by the syllable runs. Assumes nothing.
use native.Mathlib.Omega.{arith}
use mathlib.Core.Path.{◌∙◌}
use Rattle.runs.specs.Syllables.{syllable_runs}
use Rattle.runs.proofs.Spacing.{long_tracked, long_few}
use Rattle.nuclei.specs.Nuclei.{nucleus_frames}
use Rattle.nuclei.proofs.nucleus_frames.Goals as goal

pub syllables_of-requires : goal.syllables_of-requires
syllables_of-requires c = rw (c.deref-2.ensures.0 ∙ c.long_runs-runs.ensures) (omega arith, (long_tracked _, omega (arith, long_few c.args.pitch.now)))

pub returns : goal.returns
unfolding nucleus_frames syllable_runs
returns c =
    let runs = c.long_runs-runs.ensures in
    let cands = rw (c.deref.ensures.0 ∙ runs) at c.candidates.ensures in
    let syllables = rw (c.deref-2.ensures.0 ∙ runs) at c.syllables_of.ensures in
    rw (c.deref-3.ensures.0 ∙ syllables, c.deref-4.ensures.0 ∙ cands) at c.merged.ensures
