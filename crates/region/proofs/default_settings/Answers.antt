-- `region::default_settings` meets its contract. Assumes nothing.
use Rattle.std.proofs.Common.{refl}
use lib.Ieee.{of_int, of_bits, round}
use Rattle.region.specs.Defaults.{defaults}
use Rattle.region.proofs.default_settings.Goals as goal

pub returns : goal.returns
unfolding defaults of_int of_bits round
returns c = refl
