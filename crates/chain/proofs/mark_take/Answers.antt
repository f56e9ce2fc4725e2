-- `mark_take` meets its contract: by whether there is a region. Assumes nothing.
use native.Mathlib.Omega.{arith}
use mathlib.Core.Path.{refl, sym, ◌∙◌}
use Rattle.region.specs.Speech.{threshold_of}
use Rattle.region.proofs.Spans.{region_size, region_within}
use Rattle.chain.proofs.Marking.{nothing_written}
use Rattle.chain.proofs.mark_take.Goals as goal

pub mark_region-requires : goal.mark_region-requires
mark_region-requires c =
    let e = sym c.speech_region.ensures ∙ c.in-Some.is in
    let t = threshold_of c.args.t.db.now c.args.p in
    let w = region_size t c.args.t.db.now _ _ e in
    record { inside = (omega (arith, w), region_within t c.args.t.db.now _ _ e); room = c.requires.room }

pub returns-in_default : goal.returns-in_default
returns-in_default c =
    let e = sym c.speech_region.ensures ∙ c.in_default.is in
    rw e (refl, sym (nothing_written c.args.t.pitch.now _))

pub returns : goal.returns
returns c =
    let e = sym c.speech_region.ensures ∙ c.in-Some.is in
    rw e c.mark_region.ensures
