-- `values::settings_admitted` meets its contract. Assumes nothing.
use Rattle.admit.proofs.Ranges.{n0, n200}
use Rattle.admit.proofs.values.settings_admitted.Goals as goal

pub returns : goal.returns
returns c = rw (← n0, ← n200, c.within-2.ensures, c.within.ensures)
