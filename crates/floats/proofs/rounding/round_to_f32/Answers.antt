-- `floats::rounding::round_to_f32` meets its contract. Assumes nothing.
use native.Mathlib.Omega.{arith}
use mathlib.Core.Path.{◌≡◌, refl}
use Rattle.std.proofs.lemmas.Grind.{common_steps}
use lib.Ieee.{Float, nan, inf, fin, binary32}
use Rattle.std.specs.Float.{round_to_format}
use Rattle.floats.specs.Narrow.{narrow}
use Rattle.floats.proofs.rounding.round_to_f32.Goals as goal

same : (x : Float) → round_to_format binary32 x ≡ narrow x
unfolding round_to_format narrow
same nan = refl
same (inf s) = refl
same (fin s m e) = refl

pub returns : goal.returns
returns c = grind (arith, common_steps, same)
