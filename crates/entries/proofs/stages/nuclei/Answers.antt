-- `stages::nuclei` meets its contract. Assumes nothing.
use mathlib.Core.Path.{refl, sym}
use Rattle.std.proofs.lemmas.Result.{err_from_is_err_and}
use Rattle.nuclei.specs.Nuclei.{frames_of, strengths_of}
use Rattle.admit.proofs.Admitted.{nuclei_admitted}
use Rattle.admit.proofs.Numbered.{not_zero}
use Rattle.entries.proofs.Entering.{lists, leaves}
use Rattle.entries.proofs.stages.nuclei.Goals as goal

pub returns-in_err-nuclei_refusal : goal.returns-in_err-nuclei_refusal
returns-in_err-nuclei_refusal c =
    let e = c.in_err-nuclei_refusal.ensures in
    let p = err_from_is_err_and c.from_residual.result c.from_residual.ensures.1 in
    rw (p.1, p.2) (e, leaves frames_of _ e refl (not_zero _), leaves strengths_of _ e refl (not_zero _))

pub nuclei-requires : goal.nuclei-requires
nuclei-requires c = nuclei_admitted _ _ _ _ _ _ _ (sym c.in_ok-nuclei_refusal.ensures)

pub returns : goal.returns
returns c =
    let e = c.in_ok-nuclei_refusal.ensures in
    (e, lists frames_of _ e c.nuclei.ensures.0, lists strengths_of _ e c.nuclei.ensures.1)
