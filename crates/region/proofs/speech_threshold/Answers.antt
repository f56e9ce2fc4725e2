-- `region::speech_threshold` meets its contract. Assumes nothing.
use Rattle.std.proofs.Common.{Option, ap, ◌∙◌}
use lib.Ieee.{Float}
use Rattle.region.specs.Speech.{threshold_over}
use Rattle.region.proofs.speech_threshold.Goals as goal

pub returns : goal.returns
returns c =
    let s = c.args in
    c.threshold_over.ensures ∙ ap (λ (f : Option Float). threshold_over f s.p.margin) c.floor_db.ensures
