-- `select::kth` meets its contract. The loop's invariant: the key sought is neither below lo nor above hi. Assumes nothing.
use mathlib.Core.Path.{subst}
use Prim.Native.Nat.{ℕ, ◌+◌, ◌-◌, ◌/◌, ◌≤◌, ◌<◌}
use native.Mathlib.Omega.{arith}
use Rattle.select.proofs.Ranks.{bounds, not_above, is_above}
use Rattle.select.proofs.kth.Goals as goal

pub loop-lo-init : goal.loop-lo-init
loop-lo-init c =
    let b = bounds c.args.keys.now c.args.k c.requires.k_in_bounds in
    (omega (arith, b, c.least-lo.ensures), omega (arith, b, c.greatest-hi.ensures), omega arith)

pub loop-lo-preserved-then-k-count : goal.loop-lo-preserved-then-k-count
loop-lo-preserved-then-k-count c =
    let v = c.loop-lo in
    let mid = v.lo + (v.hi - v.lo) / 2 in
    (v.invariant.0, not_above c.args.keys.now c.args.k c.requires.k_in_bounds mid (subst (λ (n : ℕ). c.args.k < n) c.count.ensures c.if-k-count.true), omega arith)

pub loop-lo-preserved : goal.loop-lo-preserved
loop-lo-preserved c =
    let v = c.loop-lo in
    let mid = v.lo + (v.hi - v.lo) / 2 in
    let a = is_above c.args.keys.now c.args.k c.requires.k_in_bounds mid (subst (λ (n : ℕ). n ≤ c.args.k) c.count.ensures c.if-k-count.false) in
    (omega (arith, a), v.invariant.1, v.invariant.2)
