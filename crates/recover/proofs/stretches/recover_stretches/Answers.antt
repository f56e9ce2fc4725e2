-- `stretches::recover_stretches` meets its contract: before frame s the track is settled. Assumes nothing.
use native.Mathlib.Omega.{arith}
use mathlib.Core.Path.{sym, ◌∙◌}
use Rattle.recover.proofs.Settling.{settled_stored, settled_kept, settled_end, end_bounds}
use Rattle.recover.proofs.stretches.recover_stretches.Goals as goal

pub is_island-requires-clause-s_le_e : goal.is_island-requires-clause-s_le_e
is_island-requires-clause-s_le_e c = omega (arith, end_bounds c.args.estimates.now c.loop-s.s c.end_of-e.result c.loop-s-test.true c.end_of-e.ensures)

pub is_island-requires-clause-e_bound : goal.is_island-requires-clause-e_bound
is_island-requires-clause-e_bound c = omega (arith, end_bounds c.args.estimates.now c.loop-s.s c.end_of-e.result c.loop-s-test.true c.end_of-e.ensures)

pub store-requires-clause-e_in_bounds : goal.store-requires-clause-e_in_bounds
store-requires-clause-e_in_bounds c = (end_bounds c.args.estimates.now c.loop-s.s c.end_of-e.result c.loop-s-test.true c.end_of-e.ensures).1

pub loop-s-smaller : goal.loop-s-smaller
loop-s-smaller c = omega (arith, end_bounds c.args.estimates.now c.loop-s.s c.end_of-e.result c.loop-s-test.true c.end_of-e.ensures)

pub loop-s-preserved-then-is_island : goal.loop-s-preserved-then-is_island
loop-s-preserved-then-is_island c =
    let a = c.args in
    settled_stored a.given.now a.estimates.now c.requires.estimates_len c.loop-s-test.true c.loop-s.invariant c.end_of-e.result c.end_of-e.ensures
    (sym c.is_island.ensures ∙ c.if-is_island.true) c.store.ensures

pub loop-s-preserved : goal.loop-s-preserved
loop-s-preserved c =
    let a = c.args in
    settled_kept a.given.now a.estimates.now c.requires.estimates_len c.loop-s-test.true c.loop-s.invariant c.end_of-e.result c.end_of-e.ensures
    (sym c.is_island.ensures ∙ c.if-is_island.false)

pub returns : goal.returns
returns c = settled_end c.requires.estimates_len c.loop-s-test.false c.loop-s.invariant
