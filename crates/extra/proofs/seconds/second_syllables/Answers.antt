-- `extra::seconds::second_syllables` meets its contract: the long runs are spaced. Assumes nothing.
use native.Mathlib.Omega.{arith}
use mathlib.Core.Path.{◌∙◌}
use Rattle.runs.proofs.Spacing.{long_spaced}
use Rattle.extra.proofs.seconds.second_syllables.Goals as goal

pub seconds_of-requires : goal.seconds_of-requires
seconds_of-requires g c =
    let runs = c.deref.ensures.0 ∙ c.long_runs.ensures in
    (omega arith, (c.requires.0, c.requires.2, rw (runs, ← c.requires.1) (long_spaced c.args.pitch.now), rw runs c.requires.3))
