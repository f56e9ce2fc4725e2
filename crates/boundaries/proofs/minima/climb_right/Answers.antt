-- `boundaries::minima::climb_right` meets its contract: from frame i on to r the level does not fall. Assumes nothing.
use native.Mathlib.Omega.{arith}
use Prim.Native.Nat.{◌-◌}
use mathlib.Core.Path.{◌≡◌, ap, ◌∙◌}
use mathlib.Core.Bool.{not}
use lib.ListN.{length}
use Rattle.lists.proofs.Walks.{seek_start, seek_on, seek_stop, seek_end}
use Rattle.boundaries.proofs.minima.climb_right.Goals as goal

pub loop-r-init : goal.loop-r-init
loop-r-init c = seek_start _ _ _ (omega arith)

pub loop-r-preserved : goal.loop-r-preserved
loop-r-preserved c = seek_on _ _ _ c.loop-r.invariant c.loop-r-test.true (ap not c.if-not-level-r.false)

pub returns-then-not-level-r : goal.returns-then-not-level-r
returns-then-not-level-r c = (seek_stop _ _ _ c.loop-r.invariant (ap not c.if-not-level-r.true), omega arith)

pub returns : goal.returns
returns c =
    let e : length c.args.level.now - 1 ≡ c.loop-r.r = omega (arith, c.loop-r.invariant.high) in
    (e ∙ seek_end _ _ _ c.loop-r.invariant (omega arith), omega arith)
