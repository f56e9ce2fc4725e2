-- `values::db_admitted` meets its contract. Assumes nothing.
use Rattle.admit.specs.Values.{db_admitted}
use Rattle.admit.proofs.Ranges.{n0, n1000}
use Rattle.admit.proofs.values.db_admitted.Goals as goal

pub returns : goal.returns
unfolding db_admitted
returns c = rw (← n0, ← n1000, c.within.ensures, c.magnitude.ensures, c.is_finite.ensures)
