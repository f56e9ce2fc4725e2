-- `recover_pitch` meets its contract: where no frame is tried, the track stays, and before the first that is none is. Assumes nothing.
use native.Mathlib.Omega.{arith}
use native.Mathlib.Nat.{sub-zero}
use Rattle.std.proofs.Common.{length, sym, ap, ◌∙◌}
use Rattle.lists.specs.Frames.{first_in}
use Rattle.lists.proofs.Firsts.{FirstPass, first_some}
use Rattle.nsdf.specs.Period.{period_hz}
use Rattle.recover.specs.Estimates.{tried}
use Rattle.recover.proofs.Kept.{unfound_kept}
use Rattle.recover.proofs.recover_pitch.Goals as goal
use Rattle.recover.proofs.recover_pitch.Goals.{In-Some}

found : (c : In-Some) → FirstPass (tried c.args.pitch.now c.args.speech.now c.args.vowel.now) 0 (length c.args.pitch.now) c.in-Some.first
found c =
    let a = c.args in
    let t = tried a.pitch.now a.speech.now a.vowel.now in
    first_some t 0 (length a.pitch.now) (ap (first_in t 0) (sub-zero (length a.pitch.now)) ∙ sym c.first_tried.ensures ∙ c.in-Some.is)

pub recover_tried-requires-clause-first_within : goal.recover_tried-requires-clause-first_within
recover_tried-requires-clause-first_within c = omega (arith, found (goal.at.recover_tried-requires-clause-first_within c).In-Some)

pub recover_tried-requires-clause-untried : goal.recover_tried-requires-clause-untried
recover_tried-requires-clause-untried c i h = (found (goal.at.recover_tried-requires-clause-untried c).In-Some).before i (omega arith) h

pub returns-in_default : goal.returns-in_default
returns-in_default c =
    let a = c.args in
    sym (unfound_kept (period_hz a.samples.now) a.pitch.now a.speech.now a.vowel.now (sym c.first_tried.ensures ∙ c.in_default.is))
