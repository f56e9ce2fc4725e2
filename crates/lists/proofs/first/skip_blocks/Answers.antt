-- `lists::first::skip_blocks` meets its contract. The loop's invariant: what is found from `at` on is what is found from i on. Assumes nothing.
use native.Mathlib.Omega.{arith}
use mathlib.Core.Path.{sym, ◌∙◌}
use Rattle.lists.proofs.Firsts.{first_past}
use Rattle.lists.proofs.first.skip_blocks.Goals as goal

pub loop-i-preserved : goal.loop-i-preserved
loop-i-preserved g c =
    let l = c.loop-i in (
      omega (arith, l.invariant.0),
      λ p h. first_past p l.at c.args.n (l.invariant.1 p h) 16 (sym (c.any_passes.ensures p (λ k a b r q. h k (omega (arith, l.invariant.0)) (omega (arith, c.saturating_sub.ensures, c.loop-i-test.true)) r q)) ∙ c.if-any_passes.false),
    )
