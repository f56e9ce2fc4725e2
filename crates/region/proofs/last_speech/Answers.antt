-- `region::last_speech` meets its contract. Assumes nothing.
use Rattle.std.proofs.Common.{◌≡◌, ℕ, ◌+◌, ◌-◌, ◌<◌, sym, ap, ◌∙◌, arith}
use Rattle.lists.specs.Results.{keep}
use Rattle.lists.proofs.Fill.{keep_over}
use Rattle.region.specs.Speech.{speech_at, last_of}
use Rattle.region.proofs.Frames.{keep_all, last_here, last_sooner}
use Rattle.region.proofs.last_speech.Goals as goal

back : (i : ℕ) → 0 < i → i - 1 + 1 ≡ i
back i h = omega arith

pub returns-then-is_speech : goal.returns-then-is_speech
returns-then-is_speech c =
    let v = c.loop-i in
    let t = speech_at c.args.threshold c.args.db.now in (
      sym (last_here t (v.i - 1) (sym c.is_speech.ensures ∙ c.if-is_speech.true)) ∙ ap (λ (n : ℕ). last_of 0 (keep t 0 n)) (back v.i c.loop-i-test.true) ∙ ap (last_of 0) v.invariant,
      omega arith,
    )

pub loop-i-preserved : goal.loop-i-preserved
loop-i-preserved c =
    let v = c.loop-i in
    let t = speech_at c.args.threshold c.args.db.now in
    sym (last_sooner t (v.i - 1) (sym c.is_speech.ensures ∙ c.if-is_speech.false)) ∙ ap (keep t 0) (back v.i c.loop-i-test.true) ∙ v.invariant

pub returns : goal.returns
returns c =
    let v = c.loop-i in
    let t = speech_at c.args.threshold c.args.db.now in
    sym v.invariant ∙ sym (keep_all t v.i) ∙ keep_over t 0 v.i c.loop-i-test.false
