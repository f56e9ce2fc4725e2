-- `stages::extras` meets its contract. Assumes nothing.
use Prim.Native.Nat.{ℕ}
use mathlib.Core.Path.{refl, sym}
use mathlib.Core.List.{List}
use Rattle.std.proofs.lemmas.Result.{err_from_is_err_and}
use Rattle.nuclei.specs.Nuclei.{frames_of, strengths_of}
use Rattle.admit.proofs.Admitted.{extras_admitted}
use Rattle.admit.proofs.Numbered.{not_zero}
use Rattle.entries.proofs.Entering.{lists, leaves}
use Rattle.entries.proofs.stages.extras.Goals as goal

pub returns-in_err-extras_refusal : goal.returns-in_err-extras_refusal
returns-in_err-extras_refusal c =
    let e = c.in_err-extras_refusal.ensures in
    let p = err_from_is_err_and c.from_residual.result c.from_residual.ensures.1 in
    let some = not_zero _ in
    rw (p.1, p.2) (e, leaves frames_of _ e refl some, leaves strengths_of _ e refl some, leaves (λ (l : List ℕ). l) _ e refl some)

pub extra_candidates-requires : goal.extra_candidates-requires
extra_candidates-requires c = extras_admitted _ _ _ _ _ _ _ _ _ _ (sym c.in_ok-extras_refusal.ensures)

pub returns : goal.returns
returns c =
    let e = c.in_ok-extras_refusal.ensures in
    let found = c.extra_candidates.ensures in
    (e, lists frames_of _ e found.0, lists strengths_of _ e found.1, lists (λ (l : List ℕ). l) _ e found.2)
