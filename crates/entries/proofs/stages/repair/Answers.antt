-- `stages::repair` meets its contract. Assumes nothing.
use borrow.Author.Rules.{rules}
use Prim.Native.Nat.{ℕ}
use mathlib.Core.Path.{sym, ◌∙◌}
use lib.ListN.{get_or}
use lib.Dec.{T}
use lib.Ieee.{nan, binary32, fits}
use Rattle.std.proofs.lemmas.Result.{err_from_is_err_and}
use Rattle.lists.proofs.Entries.{at_each}
use Rattle.admit.proofs.Admitted.{repair_admitted}
use Rattle.admit.proofs.Numbered.{not_zero}
use Rattle.entries.proofs.Entering.{admitted_is, refused_is}
use Rattle.entries.proofs.stages.repair.Goals as goal

pub returns-in_err-repair_refusal : goal.returns-in_err-repair_refusal
returns-in_err-repair_refusal c =
    let e = c.in_err-repair_refusal.ensures in
    let p = err_from_is_err_and c.from_residual.result c.from_residual.ensures.1 in
    rw (p.1, p.2) (e, refused_is _ _ e (not_zero _))

pub repair_octaves-requires : goal.repair_octaves-requires
repair_octaves-requires c =
    let pitch = c.args.pitch.now in
    let each : (i : ℕ) → T (fits binary32 (get_or pitch i nan)) = search rules in
    repair_admitted pitch (at_each (λ x. T (fits binary32 x)) pitch nan (λ i _. each i)) (sym c.in_ok-repair_refusal.ensures)

pub returns : goal.returns
returns c = let e = c.in_ok-repair_refusal.ensures in (e, c.repair_octaves.ensures ∙ admitted_is _ _ e)
