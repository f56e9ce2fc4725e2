-- `stages::recover` meets its contract. Assumes nothing.
use mathlib.Core.Path.{sym, ◌∙◌}
use Rattle.std.proofs.lemmas.Result.{err_from_is_err_and}
use Rattle.admit.proofs.Admitted.{recovery_admitted}
use Rattle.admit.proofs.Numbered.{not_zero}
use Rattle.entries.proofs.Entering.{admitted_is, refused_is}
use Rattle.entries.proofs.stages.recover.Goals as goal

pub returns-in_err-recovery_refusal : goal.returns-in_err-recovery_refusal
returns-in_err-recovery_refusal c =
    let e = c.in_err-recovery_refusal.ensures in
    let p = err_from_is_err_and c.from_residual.result c.from_residual.ensures.1 in
    rw (p.1, p.2) (e, refused_is _ _ e (not_zero _))

pub recover_pitch-requires : goal.recover_pitch-requires
recover_pitch-requires c = recovery_admitted _ _ _ _ (sym c.in_ok-recovery_refusal.ensures)

pub returns : goal.returns
returns c = let e = c.in_ok-recovery_refusal.ensures in (e, c.recover_pitch.ensures ∙ admitted_is _ _ e)
