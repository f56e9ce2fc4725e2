-- `floats::plain::is_finite` meets its contract. Assumes nothing.
use mathlib.Core.Path.{◌≡◌, refl, ◌∙◌}
use lib.Ieee.{Float, nan, inf, fin}
use lib.Ieee.Scale.{finite}
use Rattle.std.specs.Float.{float_is_finite}
use Rattle.floats.proofs.plain.is_finite.Goals as goal

same : (d : Float) → float_is_finite d ≡ finite d
unfolding float_is_finite
same nan = refl
same (inf s) = refl
same (fin s m e) = refl

pub returns : goal.returns
returns c = c.is_finite.ensures.value ∙ same c.args.d
