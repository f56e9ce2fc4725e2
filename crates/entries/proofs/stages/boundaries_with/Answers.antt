-- `stages::boundaries_with` meets its contract. Assumes nothing.
use mathlib.Core.Path.{sym}
use Rattle.std.proofs.lemmas.Result.{err_from_is_err_and}
use Rattle.admit.proofs.Admitted.{boundaries_with_admitted}
use Rattle.admit.proofs.Numbered.{not_zero}
use Rattle.entries.proofs.Entering.{finds, refuses}
use Rattle.entries.proofs.stages.boundaries_with.Goals as goal

pub returns-in_err-boundaries_with_refusal : goal.returns-in_err-boundaries_with_refusal
returns-in_err-boundaries_with_refusal c =
    let p = err_from_is_err_and c.from_residual.result c.from_residual.ensures.1 in
    rw (p.1, p.2) (refuses _ c.in_err-boundaries_with_refusal.ensures (not_zero _))

pub boundaries_with-requires : goal.boundaries_with-requires
boundaries_with-requires c =
    let a = boundaries_with_admitted _ _ _ _ _ _ _ _ (sym c.in_ok-boundaries_with_refusal.ensures) in
    record { start_le_end = a.0; strictly_rises = a.1.0; db_in_bounds = a.1.1 }

pub returns : goal.returns
returns c = finds _ c.in_ok-boundaries_with_refusal.ensures c.boundaries_with.ensures
