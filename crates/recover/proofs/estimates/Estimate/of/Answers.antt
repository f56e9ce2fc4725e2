-- `Estimate::of` meets its contract: an estimate in range is no zero, and 0 is read as none. Assumes nothing.
use mathlib.Core.Path.{◌∙◌}
use lib.Ieee.{binary64}
use Rattle.std.proofs.Common.{false}
use Rattle.floats.proofs.Zeros.{zero_bits}
use Rattle.recover.proofs.Held.{held_one, read_held, held_or}
use Rattle.recover.proofs.estimates.Estimate.of.Goals as goal

pub invariant_of-result : goal.invariant_of-result
invariant_of-result c = rw (c.unwrap_or.ensures ∙ held_or _ (zero_bits binary64 false) c.args.found) (held_one c.args.found c.requires)

pub returns : goal.returns
returns c = rw (c.unwrap_or.ensures ∙ held_or _ (zero_bits binary64 false) c.args.found) (read_held c.args.found c.requires)
