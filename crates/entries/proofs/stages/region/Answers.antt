-- `stages::region` meets its contract. Assumes nothing.
use mathlib.Core.Path.{sym, ap₂, ◌∙◌}
use Rattle.std.proofs.lemmas.Result.{err_from_is_err_and}
use Rattle.admit.proofs.Admitted.{region_admitted}
use Rattle.admit.proofs.Numbered.{not_zero}
use Rattle.entries.specs.Stages.{spanned}
use Rattle.entries.proofs.Entering.{admitted_is, refused_is}
use Rattle.entries.proofs.stages.region.Goals as goal

pub returns-in_err-region_refusal : goal.returns-in_err-region_refusal
returns-in_err-region_refusal c =
    let e = c.in_err-region_refusal.ensures in
    let p = err_from_is_err_and c.from_residual.result c.from_residual.ensures.1 in
    rw (p.1, p.2) (ap₂ spanned e (refused_is _ _ e (not_zero _)))

pub speech_region-requires : goal.speech_region-requires
speech_region-requires c = region_admitted _ _ (sym c.in_ok-region_refusal.ensures)

pub returns : goal.returns
returns c =
    let e = c.in_ok-region_refusal.ensures in
    ap₂ spanned e (c.speech_region.ensures ∙ admitted_is _ _ e)
