-- `stages::boundaries` meets its contract. Assumes nothing.
use Rattle.admit.specs.Refusals.{boundaries_refusal}
use Rattle.entries.proofs.stages.boundaries.Goals as goal

pub returns : goal.returns
unfolding boundaries_refusal
returns c = rw c.default_settings.ensures at c.boundaries_with.ensures
