-- `region::region_above` meets its contract. Assumes nothing.
use Rattle.std.proofs.Common.{ℕ, ◌+◌, ◌≤◌, length, Some, ◌∙◌, ap₂, arith}
use Rattle.region.specs.Speech.{speech_frames, spanning}
use Rattle.region.proofs.Spans.{few, many, last_within}
use Rattle.region.proofs.region_above.Goals as goal
use Rattle.region.proofs.region_above.Goals.{After-last_speech}

pub returns-then-speech_count-lt-MIN_SPEECH_FRAMES : goal.returns-then-speech_count-lt-MIN_SPEECH_FRAMES
returns-then-speech_count-lt-MIN_SPEECH_FRAMES c = few (speech_frames c.args.threshold c.args.db.now) (omega (arith, c.speech_count.ensures))

enough : (c : After-last_speech) → 5 ≤ length (speech_frames c.args.threshold c.args.db.now)
enough c = omega (arith, c.speech_count.ensures)

pub overflow_add-end : goal.overflow_add-end
overflow_add-end c =
    let h = enough (goal.at.overflow_add-end c).After-last_speech in
    omega (arith, c.in_ok-end.ensures.0, last_within c.args.threshold c.args.db.now (omega (arith, h)))

pub returns : goal.returns
returns c =
    ap₂ (λ (a b : ℕ). Some (spanning a (b + 1))) c.in_ok-start.ensures.0 c.in_ok-end.ensures.0
    ∙ many (speech_frames c.args.threshold c.args.db.now) (enough (goal.at.returns c).After-last_speech)
