-- `region::classic_settings` meets its contract. Assumes nothing.
use Rattle.std.proofs.Common.{refl}
use lib.Ieee.{of_int, of_bits, round}
use Rattle.region.specs.Defaults.{classic}
use Rattle.region.proofs.classic_settings.Goals as goal

pub returns : goal.returns
unfolding classic of_int of_bits round
returns c = refl
