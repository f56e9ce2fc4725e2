-- `nuclei::merging::merge_marked` meets its contract: the frames below i are merged. Assumes nothing.
use native.Mathlib.Omega.{arith}
use Prim.Native.Nat.{◌+◌}
use mathlib.Core.Path.{sym, ◌∙◌}
use mathlib.Core.List.{reverse}
use Rattle.lists.proofs.Stacks.{falls_under}
use Rattle.nuclei.proofs.Merge.{kept_few, merging_start, merging_not, merging_one, merging_end}
use Rattle.nuclei.proofs.merging.merge_marked.Goals as goal
use Rattle.nuclei.proofs.merging.merge_marked.Goals.{then-is_in, else-is_in}

pub loop-i-init : goal.loop-i-init
loop-i-init g c = rw c.clear.ensures (tt, λ test one left h k. merging_start one left test c.args.n)

pub push_merging-requires : goal.push_merging-requires
push_merging-requires g c =
    let l = c.loop-i in (
      omega arith,
      (
        omega (arith, kept_few l.kept.items l.i l.invariant.0, c.requires.room),
        (
          l.invariant.0,
          (
            (λ a b h k. c.requires.asks a b h (omega (arith, c.loop-i-test.true))),
            (λ a b r h k p. c.requires.picks a b r h (omega (arith, c.loop-i-test.true)) p),
          ),
        ),
      ),
    )

pub loop-i-preserved : goal.loop-i-preserved
loop-i-preserved g c =
    let l = c.loop-i in
    elim c.if-is_in.branch [
      | then-is_in w ↦
          rw w.kept-is (
            w.push_merging.ensures.order,
            λ test one left h k.
                let told = h l.i c.loop-i-test.true c.is_in.result c.is_in.ensures in
                let put = w.push_merging.ensures.same one left (λ a b u v. k a b u (omega (arith, c.loop-i-test.true))) in
                merging_one one left test c.args.n l.kept.items l.i (l.invariant.1 test one left h k) c.loop-i-test.true (sym told ∙ w.if-is_in.true) w.push_merging.new.kept.items put,
          )
      | else-is_in w ↦
          rw w.kept-is (
            falls_under l.i (l.i + 1) (reverse l.kept.items) (omega arith) l.invariant.0,
            λ test one left h k.
                let told = h l.i c.loop-i-test.true c.is_in.result c.is_in.ensures in
                merging_not one left test c.args.n l.kept.items l.i (l.invariant.1 test one left h k) c.loop-i-test.true (sym told ∙ w.if-is_in.false),
          )
    ]

pub returns : goal.returns
returns g c = λ test one left h k. merging_end one left test c.args.n c.loop-i.kept.items c.loop-i.i (c.loop-i.invariant.1 test one left h k) (omega (arith, c.loop-i-test.false))
