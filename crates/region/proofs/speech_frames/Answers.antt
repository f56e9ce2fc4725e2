-- `region::speech_frames` meets its contract. Assumes nothing.
use Rattle.std.proofs.Common.{ap, ◌∙◌}
use lib.Ieee.{Float}
use Rattle.lists.specs.Results.{overlay}
use Rattle.region.specs.Speech.{speech_marks}
use Rattle.region.proofs.speech_frames.Goals as goal

pub returns : goal.returns
returns c =
    let s = c.args in
    c.marks_above.ensures ∙ ap (λ (x : Float). overlay (speech_marks x s.db.now) s.out.now) c.speech_threshold.ensures
