-- `extra::unpitched::unpitched` meets its contract. Assumes nothing.
use native.Mathlib.Omega.{arith}
use mathlib.Core.Path.{sym, ap, ◌∙◌}
use mathlib.Core.Bool.{not}
use Rattle.extra.specs.Unpitched.{unpitched}
use Rattle.extra.proofs.Voiceless.{speech_inside}
use Rattle.extra.proofs.unpitched.unpitched.Goals as goal

pub vowel_like-requires : goal.vowel_like-requires
vowel_like-requires c = omega (arith, speech_inside _ _ _ (sym c.is_speech.ensures ∙ c.if-is_speech.true), c.args.r.inside)

pub returns-then-not-pitch_near : goal.returns-then-not-pitch_near
unfolding unpitched
returns-then-not-pitch_near c = rw (sym c.is_speech.ensures ∙ c.if-is_speech.true, sym c.pitch_near.ensures ∙ c.if-not-pitch_near.true) c.vowel_like.ensures

pub returns-else-not-pitch_near : goal.returns-else-not-pitch_near
unfolding unpitched
returns-else-not-pitch_near c = rw (sym c.is_speech.ensures ∙ c.if-is_speech.true, sym c.pitch_near.ensures ∙ c.if-not-pitch_near.false) (ap not c.if-not-pitch_near.false)

pub returns-else-is_speech : goal.returns-else-is_speech
unfolding unpitched
returns-else-is_speech c = c.if-is_speech.false ∙ rw (sym c.is_speech.ensures ∙ c.if-is_speech.false)
