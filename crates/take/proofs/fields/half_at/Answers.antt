-- `take::fields::half_at` meets its contract. Assumes nothing.
use native.Mathlib.Omega.{arith}
use Rattle.take.specs.Fields.{half_at}
use Rattle.take.proofs.fields.half_at.Goals as goal

pub returns : goal.returns
unfolding half_at
returns c = (omega arith, omega arith)
