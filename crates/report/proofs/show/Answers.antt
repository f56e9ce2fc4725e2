-- `report::show` meets its contract: the entries that are listed are those of the text. Assumes nothing.
use native.Mathlib.Omega.{arith}
use mathlib.Core.Path.{ap, ◌∙◌}
use Rattle.take.proofs.Sizes.{refused_fits}
use Rattle.take.specs.Listing.{refused_listing}
use Rattle.report.specs.Answered.{lists_in}
use Rattle.report.proofs.Parts.{front_fits, front_shown, refused_shown}
use Rattle.report.proofs.show.Goals as goal

pub listing-requires : goal.listing-requires
listing-requires c =
    let a = c.args in
    let l = a.call in (
      omega arith,
      front_fits a.given.now l.pitch.now (lists_in l) l.fitting c.in-Ok.m.region c.min-a.result c.min-b.result c.min-c.result c.min-d.result,
    )

pub refused-requires : goal.refused-requires
refused-requires c = (omega arith, omega (arith, refused_fits c.from.result))

pub returns-in-Ok : goal.returns-in-Ok
returns-in-Ok c =
    let a = c.args in
    let l = a.call in
    rw c.in-Ok.is (c.listing.ensures ∙ front_shown a.given.now l.pitch.now (lists_in l) l.fitting c.in-Ok.m c.min-a.ensures c.min-b.ensures c.min-c.ensures c.min-d.ensures)

pub returns-in-Err : goal.returns-in-Err
returns-in-Err c =
    let a = c.args in
    let l = a.call in
    rw c.in-Err.is (c.refused.ensures ∙ ap refused_listing c.from.ensures ∙ refused_shown a.given.now l.pitch.now (lists_in l) c.in-Err.refusal)
