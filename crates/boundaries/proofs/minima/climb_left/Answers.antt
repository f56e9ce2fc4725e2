-- `boundaries::minima::climb_left` meets its contract: from frame i back to l the level does not fall. Assumes nothing.
use native.Mathlib.Omega.{arith}
use Prim.Native.Nat.{◌-◌}
use mathlib.Core.Path.{◌≡◌, ap, ◌∙◌}
use mathlib.Core.Bool.{not}
use Rattle.lists.proofs.Walks.{back_stop, back_end}
use Rattle.boundaries.proofs.minima.climb_left.Goals as goal

pub returns-then-not-level-l : goal.returns-then-not-level-l
returns-then-not-level-l c = (back_stop _ _ c.loop-l.invariant (ap not c.if-not-level-l.true), omega arith)

pub returns : goal.returns
returns c =
    let e : 0 ≡ c.loop-l.l - 1 = omega arith in
    (e ∙ back_end _ _ c.loop-l.invariant (omega arith), omega arith)
