-- `report::marks_of` meets its contract: a refused file is told, and a take has what the calls ask. Assumes nothing.
use native.Mathlib.Nat.{le_of_eq}
use native.Mathlib.Omega.{arith}
use Rattle.take.proofs.Sizes.{refused_fits}
use mathlib.Core.Path.{sym, ap, ◌∙◌}
use Rattle.admit.proofs.Numbered.{not_zero}
use Rattle.take.proofs.Agreement.{admitted}
use Rattle.take.specs.Listing.{refused_listing}
use Rattle.report.proofs.Parts.{taken_printed, refused_printed}
use Rattle.report.proofs.marks_of.Goals as goal

pub refused-requires : goal.refused-requires
refused-requires c = (omega arith, omega (arith, refused_fits c.from.result))

pub returns-in-Err : goal.returns-in-Err
returns-in-Err c =
    c.refused.ensures
    ∙ ap refused_listing (c.from.ensures ∙ c.in-Err.ensures)
    ∙ refused_printed c.args.file.now (λ e. not_zero c.in-Err.refusal (c.in-Err.ensures ∙ e))

pub with_tracks-requires : goal.with_tracks-requires
with_tracks-requires c =
    let t = admitted _ _ (sym c.in-Ok.ensures) in
    record { file_bound = (t.0, le_of_eq (sym t.1)) }

pub returns-in-Ok : goal.returns-in-Ok
returns-in-Ok c = c.with_tracks.ensures ∙ taken_printed c.args.file.now (sym c.in-Ok.ensures)
