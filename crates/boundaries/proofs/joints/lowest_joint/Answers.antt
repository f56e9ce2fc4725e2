-- `boundaries::joints::lowest_joint` meets its contract. Assumes nothing.
use native.Mathlib.Omega.{arith}
use Rattle.smooth.proofs.Best.{middle_within}
use Rattle.smooth.specs.declared.extrema.Extremum.TheVariants.{Min}
use Rattle.boundaries.proofs.joints.lowest_joint.Goals as goal

pub overflow_cast-result : goal.overflow_cast-result
overflow_cast-result c =
    let part = c.args.between in
    omega (arith, c.extremum_middle.ensures, middle_within Min part.s.now part.a part.b part.inside.0 part.inside.1)
