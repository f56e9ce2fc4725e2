-- `normalised` meets its contract: both numbers are exact as f64, and their quotient is the fraction rounded once. Assumes nothing.
use borrow.Author.Tests.{ne_eqb}
use lib.IntN.{pos, ◌*ℤ◌}
use lib.Ieee.{binary64}
use mir.Syntax.{w64}
use mir.ValLaws.{to_z-of_z}
use Rattle.floats.proofs.Quotient.{div_ratio}
use Rattle.nsdf.proofs.Whole.{twice_small, twice_fits, not_zero}
use Rattle.nsdf.proofs.periodicity.normalised.Goals as goal

pub returns : goal.returns
returns c =
    let fit = twice_fits c.args.cross c.args.power c.requires.cross_bound c.requires.power_bound in
    let small = twice_small c.args.cross c.args.power c.requires.cross_bound c.requires.power_bound in
    let some = c.if-power-eq0.false in
    rw (ne_eqb _ 0 some, to_z-of_z w64 c.args.cross c.ranges.cross, to_z-of_z w64 _ fit)
    (div_ratio binary64 (pos 2 *ℤ c.args.cross) c.args.power small c.requires.power_bound (not_zero _ some))
