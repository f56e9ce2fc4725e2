-- `lists::first::first_from` meets its contract. The loop's invariant: what is found from `at` on is what is found from i on. Assumes nothing.
use Prim.Native.Nat.{◌-◌}
use native.Mathlib.Omega.{arith}
use mathlib.Core.Path.{sym, ◌∙◌}
use Rattle.lists.specs.Frames.{first_in}
use Rattle.lists.proofs.Firsts.{first_stop, first_on, first_end}
use Rattle.lists.proofs.first.first_from.Goals as goal

pub returns-then-test : goal.returns-then-test
returns-then-test g c = λ p h.
    let l = c.loop-at in
    let told = h l.at l.invariant.0 c.loop-at-test.true c.test.result c.test.ensures in
    first_stop p l.at c.args.n {whole = first_in p c.args.i (c.args.n - c.args.i)} (l.invariant.1 p h) c.loop-at-test.true (sym told ∙ c.if-test.true)

pub loop-at-preserved : goal.loop-at-preserved
loop-at-preserved g c =
    let l = c.loop-at in (
      omega (arith, l.invariant.0),
      λ p h.
          let told = h l.at l.invariant.0 c.loop-at-test.true c.test.result c.test.ensures in
          first_on p l.at c.args.n {whole = first_in p c.args.i (c.args.n - c.args.i)} (l.invariant.1 p h) c.loop-at-test.true (sym told ∙ c.if-test.false),
    )

pub returns : goal.returns
returns g c = λ p h. first_end p c.loop-at.at c.args.n (c.loop-at.invariant.1 p h) c.loop-at-test.false
