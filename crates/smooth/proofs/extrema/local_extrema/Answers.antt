-- `smooth::extrema::local_extrema` meets its contract. The flat stretch i to j goes on, and the extrema before it are found. Assumes nothing.
use native.Mathlib.Omega.{arith}
use Rattle.smooth.proofs.Stretches.{scan_start, scan_room, scan_found, scan_none, scan_on, scan_end}
use Rattle.smooth.proofs.extrema.local_extrema.Goals as goal
use Rattle.smooth.proofs.extrema.local_extrema.Goals.{then-is_offered, else-is_offered}

pub loop-j-init : goal.loop-j-init
loop-j-init g c = rw c.clear.ensures (scan_start _ _ _ _)

pub push-requires : goal.push-requires
push-requires g c = (omega arith, omega (arith, scan_room _ _ _ _ c.loop-j.invariant c.loop-j-test.true c.ends_at.ensures c.if-ends_at.true c.is_offered.ensures c.if-is_offered.true))

pub loop-j-preserved-then-ends_at : goal.loop-j-preserved-then-ends_at
loop-j-preserved-then-ends_at g c = elim c.if-is_offered.branch [
  | then-is_offered w ↦
      rw w.found-is (scan_found _ _ _ _ c.loop-j.invariant c.loop-j-test.true c.ends_at.ensures c.if-ends_at.true c.is_offered.ensures w.if-is_offered.true w.middle.ensures w.push.ensures.items)
  | else-is_offered w ↦ rw w.found-is (scan_none _ _ _ _ c.loop-j.invariant c.loop-j-test.true c.ends_at.ensures c.if-ends_at.true c.is_offered.ensures w.if-is_offered.false)
]

pub loop-j-preserved : goal.loop-j-preserved
loop-j-preserved g c = scan_on _ _ _ _ c.loop-j.invariant c.loop-j-test.true c.ends_at.ensures c.if-ends_at.false c.flat_last-j.result c.flat_last-j.ensures

pub returns : goal.returns
returns g c = scan_end _ _ _ _ c.loop-j.invariant c.loop-j-test.false
