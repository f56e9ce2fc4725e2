-- `nuclei::peaks::onto_run` meets its contract. Assumes nothing.
use mathlib.Core.Path.{sym, ◌∙◌}
use Rattle.nuclei.specs.Peaks.{onto_run}
use Rattle.nuclei.proofs.peaks.onto_run.Goals as goal

pub returns-in_default : goal.returns-in_default
unfolding onto_run
returns-in_default c = rw (sym c.run_of.ensures ∙ c.in_default.is)

pub returns-then-is_speech : goal.returns-then-is_speech
unfolding onto_run
returns-then-is_speech c = rw (sym c.run_of.ensures ∙ c.in-Some.is, ← c.clamp-on.ensures, sym c.is_speech.ensures ∙ c.if-is_speech.true)

pub returns-else-is_speech : goal.returns-else-is_speech
unfolding onto_run
returns-else-is_speech c = rw (sym c.run_of.ensures ∙ c.in-Some.is, ← c.clamp-on.ensures, sym c.is_speech.ensures ∙ c.if-is_speech.false)
