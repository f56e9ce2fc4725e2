-- `input::read_all` meets its contract. The loop's invariant: the file and the count are what some pieces leave, one after the other; each turn adds the one that was read. Assumes nothing.
use native.Mathlib.Omega.{arith}
use mathlib.Core.Path.{refl}
use mathlib.Core.List.{[]}
use borrow.Author.Rules.{rules}
use Rattle.input.specs.Held.{none, pieces_joined}
use Rattle.input.proofs.Adding.{one_more}
use Rattle.input.proofs.Bringing.{none_consumed, piece_consumed, whole_known, longer_known, same_left, more_left}
use Rattle.input.proofs.read_all.Goals as goal

pub loop-total-init : goal.loop-total-init
unfolding pieces_joined
loop-total-init g c = (refl, refl, ([], none, none_consumed (g.R.Read.remaining c.args.input.now)))

pub returns-in_default-clause-known : goal.returns-in_default-clause-known
returns-in_default-clause-known g c =
    let i = c.loop-total.invariant.2 in
    let b = c.in_ok-more.ensures in
    let s = same_left _ _ _ _ _ _ b.0 (rw c.in_default.is at b.1) b.2 (omega (arith, c.loop-total.invariant.0)) in
    whole_known (rw (← s.0) at i.1) _ _ _ i.2 s.1 s.2

pub loop-total-preserved : goal.loop-total-preserved
loop-total-preserved g c =
    let i = c.loop-total.invariant.2 in
    let b = c.in_ok-more.ensures in
    let m = more_left _ _ _ _ _ _ b.0 (rw c.in-Some.is at b.1) b.2 in
    (search rules, search rules, (_, one_more i.1 m.1.1, piece_consumed _ _ _ i.0 m.1.0 i.2 m.1.2))

pub returns-clause-known : goal.returns-clause-known
returns-clause-known g c =
    let i = c.loop-total.invariant.2 in
    longer_known i.1 (omega (arith, c.loop-total-test.false)) _ _ i.2
