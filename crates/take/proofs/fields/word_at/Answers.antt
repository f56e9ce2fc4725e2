-- `take::fields::word_at` meets its contract. Assumes nothing.
use native.Mathlib.Omega.{arith}
use Rattle.take.specs.Fields.{word_at}
use Rattle.take.proofs.fields.word_at.Goals as goal

pub returns : goal.returns
unfolding word_at
returns c = omega arith
