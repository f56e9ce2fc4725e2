-- `stretches::end_of` meets its contract: what the library finds of the frames. Assumes nothing.
use Rattle.std.proofs.Common.{◌≡◌, rules, tests, ◌∙◌, true, false}
use Rattle.std.proofs.lemmas.Iterator.{first_from_Range}
use Rattle.recover.specs.Recovered.{starts}
use Rattle.recover.proofs.Walking.{end_found}
use Rattle.recover.proofs.stretches.end_of.Goals as goal

pub returns : goal.returns
returns c =
    let es = c.args.estimates.now in
    c.unwrap_or.ensures ∙ end_found es c.args.s c.requires.s_in_bounds c.find.result
    (first_from_Range _ _ _ _ (λ i. starts es i ≡ true) (λ i. starts es i ≡ false) c.find.ensures.ran (λ x q k. search (rules, tests)) (λ x q k. search (rules, tests)))
