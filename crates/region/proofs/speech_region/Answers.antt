-- `region::speech_region` meets its contract. Assumes nothing.
use Rattle.std.proofs.Common.{ap, ◌∙◌}
use lib.Ieee.{Float}
use Rattle.region.specs.Speech.{speech_frames, region_in}
use Rattle.region.proofs.speech_region.Goals as goal

pub returns : goal.returns
returns c =
    let db = c.args.db.now in
    c.region_above.ensures ∙ ap (λ (x : Float). region_in (speech_frames x db)) c.speech_threshold.ensures
