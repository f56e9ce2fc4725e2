-- `Marked::first_tried` meets its contract: what the library finds of the frames. Assumes nothing.
use Rattle.std.proofs.Common.{◌≡◌, rules, tests, arith, true, false, length}
use Rattle.std.proofs.lemmas.Iterator.{first_from_Range}
use Rattle.recover.specs.Estimates.{tried}
use Rattle.recover.proofs.Finding.{found_in}
use Rattle.recover.proofs.estimates.Marked.first_tried.Goals as goal

pub returns : goal.returns
returns c =
    let track = c.args.self in
    let t = tried track.pitch.now track.speech.now track.vowel.now in
    found_in t c.find.result (length track.pitch.now)
    (first_from_Range _ _ _ _ (λ k. t k ≡ true) (λ k. t k ≡ false) c.find.ensures.ran (λ x q k. search (rules, tests)) (λ x q k. search (rules, tests)))
    (omega arith) (omega arith)
