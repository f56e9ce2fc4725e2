-- `nuclei::tops::stands_alone` meets its contract. Assumes nothing.
use mathlib.Core.Path.{sym, ap, ◌∙◌}
use mathlib.Core.Bool.{not}
use Rattle.nuclei.specs.Tops.{stands_alone}
use Rattle.nuclei.proofs.tops.stands_alone.Goals as goal

pub returns-then-is_speech : goal.returns-then-is_speech
unfolding stands_alone
returns-then-is_speech c = rw (sym c.is_speech.ensures ∙ c.if-is_speech.true) (ap not c.on_flank.ensures)

pub returns-else-is_speech : goal.returns-else-is_speech
unfolding stands_alone
returns-else-is_speech c = c.if-is_speech.false ∙ rw (sym c.is_speech.ensures ∙ c.if-is_speech.false)
