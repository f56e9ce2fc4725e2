-- `nuclei_refusal` meets its contract. Assumes nothing.
use Rattle.std.proofs.Common.{refl}
use Rattle.admit.specs.Refusals.{tested, refusal, nuclei_refusal}
use Rattle.admit.specs.First.{passes}
use Rattle.admit.specs.Values.{all_of}
use Rattle.admit.proofs.First.{passed_in_turn, refused_at_once, later, next}
use Rattle.admit.proofs.Ranges.{n20, n4000}
use Rattle.admit.proofs.nuclei_refusal.Goals as goal

pub returns-in_err-lengths_refusal : goal.returns-in_err-lengths_refusal
unfolding nuclei_refusal refusal tested passes all_of
returns-in_err-lengths_refusal c =
    refused_at_once _ _ _ _ c.from_residual.ensures.1 c.in_err-lengths_refusal.ensures

pub returns : goal.returns
unfolding nuclei_refusal refusal tested passes all_of passed_in_turn
returns c = later _ _ c.in_ok-lengths_refusal.ensures c.first_refusal.ensures
    (next refl (next c.settings_admitted.ensures (next c.all_db.ensures
    (next (rw (n20, n4000) at c.all_pitches.ensures) refl))))
