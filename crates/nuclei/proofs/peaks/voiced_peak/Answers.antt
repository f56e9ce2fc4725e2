-- `nuclei::peaks::voiced_peak` meets its contract. Assumes nothing.
use mathlib.Core.Path.{sym, ◌∙◌}
use Rattle.nuclei.specs.Peaks.{voiced_peak}
use Rattle.nuclei.proofs.peaks.voiced_peak.Goals as goal

pub returns-then-pitch_near : goal.returns-then-pitch_near
unfolding voiced_peak
returns-then-pitch_near c = rw (sym c.pitch_near.ensures ∙ c.if-pitch_near.true) c.is_speech.ensures

pub returns-else-pitch_near : goal.returns-else-pitch_near
unfolding voiced_peak
returns-else-pitch_near c = c.if-pitch_near.false ∙ rw (sym c.pitch_near.ensures ∙ c.if-pitch_near.false)
