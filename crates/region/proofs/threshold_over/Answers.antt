-- `region::threshold_over` meets its contract. Assumes nothing.
use Rattle.std.proofs.Common.{rules, ◌≡◌, false, Option, None, Some, refl, ◌∙◌}
use lib.Ieee.{Float, inf, binary32, of_bits, add}
use Rattle.std.specs.Prelude.{MatchOption}
use Rattle.region.specs.Speech.{threshold_over}
use Rattle.region.proofs.threshold_over.Goals as goal

infinity : of_bits binary32 2139095040 ≡ inf false
unfolding of_bits
infinity = refl

mapped : (floor : Option Float) (margin r : Float) {P : Float → Type 0} → MatchOption floor (r ≡ of_bits binary32 2139095040) P → ((x : Float) → P x → r ≡ add binary32 x margin) → r ≡ threshold_over floor margin
mapped None margin r m f = m ∙ infinity
mapped (Some x) margin r m f = f x m

pub returns : goal.returns
returns c = mapped c.args.floor c.args.margin c.map_or.result c.map_or.ensures (λ x p. search rules)
