-- `floats::plain::magnitude` meets its contract. Assumes nothing.
use mathlib.Core.Path.{sym, ◌∙◌, subst}
use lib.Dec.{T}
use Rattle.floats.proofs.Zeros.{unsigned}
use Rattle.floats.proofs.plain.magnitude.Goals as goal

pub returns : goal.returns
returns c = c.abs.ensures.value ∙ unsigned c.args.x (subst T (sym c.well_formed.0.1) tt)
