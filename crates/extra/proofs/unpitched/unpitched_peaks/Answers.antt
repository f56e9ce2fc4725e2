-- `extra::unpitched::unpitched_peaks` meets its contract: of the peaks those stay that pass. Assumes nothing.
use Rattle.std.proofs.Common.{rules, tests, ◌∙◌}
use Rattle.arrayvec.proofs.ArrayVecLemmas.{filter-from_retain}
use Rattle.extra.specs.Unpitched.{unpitched, unpitched_peaks}
use Rattle.extra.proofs.Voiceless.{filter_same}
use Rattle.extra.proofs.unpitched.unpitched_peaks.Goals as goal

pub returns : goal.returns
unfolding unpitched_peaks
returns g c =
    let t = unpitched c.args.r.level.now c.args.pitch.now c.args.son.now c.args.r.bounds in
    rw c.local_extrema.ensures at (filter-from_retain _ t _ (λ x b f y h. search (rules, tests)) _ _ c.retain.ensures.filtered ∙ filter_same t _)
