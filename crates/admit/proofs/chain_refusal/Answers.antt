-- `chain_refusal` meets its contract. Assumes nothing.
use Rattle.std.proofs.Common.{refl, ap₂}
use mathlib.Core.Bool.{◌&&◌}
use Rattle.admit.specs.Refusals.{tested, refusal, chain_refusal}
use Rattle.admit.specs.First.{passes}
use Rattle.admit.specs.Values.{all_of}
use Rattle.admit.proofs.First.{passed_in_turn, refused_at_once, later, next}
use Rattle.admit.proofs.Ranges.{n0, n1, n40, n2000}
use Rattle.admit.proofs.chain_refusal.Goals as goal

pub returns-in_err-lengths_refusal : goal.returns-in_err-lengths_refusal
unfolding chain_refusal refusal tested passes all_of
returns-in_err-lengths_refusal c =
    refused_at_once _ _ _ _ c.from_residual.ensures.1 c.in_err-lengths_refusal.ensures

pub returns : goal.returns
unfolding chain_refusal refusal tested passes all_of passed_in_turn
returns c = later _ _ c.in_ok-lengths_refusal.ensures c.first_refusal.ensures
    (next refl (next c.settings_admitted.ensures (next c.all_db.ensures
    (next (ap₂ ◌&&◌ (rw (n40, n2000) at c.all_pitches.ensures) (rw (n0, n1) at c.all_within.ensures))
    (next (ap₂ ◌&&◌ (rw (n0, n1) at c.all_within-2.ensures) c.all_marks.ensures) refl)))))
