-- `nuclei::peaks::pitch_near` meets its contract: what the library answers of the frames. Assumes nothing.
use Rattle.std.proofs.Common.{rules, tests, ◌∙◌}
use Rattle.lists.proofs.Ranges.{any_in}
use Rattle.runs.specs.Runs.{voiced}
use Rattle.nuclei.specs.Peaks.{pitch_near}
use Rattle.nuclei.proofs.peaks.pitch_near.Goals as goal

pub returns : goal.returns
unfolding pitch_near
returns c = any_in (voiced c.args.pitch.now) (λ x r q k. search (rules, tests)) c.any.result c.any.ensures.ran ∙ rw (c.near_start.ensures, c.near_end.ensures)
