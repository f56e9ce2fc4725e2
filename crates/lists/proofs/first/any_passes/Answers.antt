-- `lists::first::any_passes` meets its contract. The loop's invariant: what is found so far and the test of what is left make up the whole. Assumes nothing.
use Prim.Native.Nat.{◌+◌}
use native.Mathlib.Omega.{arith}
use Rattle.lists.proofs.Firsts.{byte_one, some_turn, some_end}
use Rattle.lists.proofs.first.any_passes.Goals as goal

pub loop-k-preserved : goal.loop-k-preserved
loop-k-preserved g c =
    let l = c.loop-k in (
      omega (arith, l.invariant.0, byte_one c.test.result),
      λ p h. some_turn p l.k (c.args.j + 16) l.passed c.loop-k-test.true (h l.k l.auto.k c.loop-k-test.true c.test.result c.test.ensures) (l.invariant.1 p h),
    )

pub returns : goal.returns
returns g c = λ p h. some_end p c.loop-k.k (c.args.j + 16) c.loop-k.passed c.loop-k-test.false (c.loop-k.invariant.1 p h)
