-- `stretches::are_pitchless` meets its contract: what the library answers of the frames. Assumes nothing.
use Rattle.std.proofs.Common.{rules, tests, refl, ◌∙◌, ◌-◌}
use Rattle.std.proofs.lemmas.Iterator.{YieldsList-from_range}
use Rattle.std.proofs.lemmas.Iterator.Search.{all_from_yields_List}
use Rattle.lists.proofs.Ranges.{every_frame}
use Rattle.recover.specs.Estimates.{pitchless}
use Rattle.recover.proofs.stretches.are_pitchless.Goals as goal

pub returns : goal.returns
returns c =
    let a = c.args.a in
    let b = c.args.b in
    let t = pitchless c.args.pitch.now in
    all_from_yields_List t _ _ c.all.result c.all.ensures.ran (YieldsList-from_range a b (b - a) refl refl) (λ x r q k. search (rules, tests))
    ∙ every_frame t a (b - a)
