-- `nuclei::merging::merged` meets its contract. Assumes nothing.
use native.Mathlib.Omega.{arith}
use mathlib.Core.Path.{◌≡◌}
use Rattle.std.proofs.Common.{rules}
use Rattle.lists.specs.Marks.{member, in_order}
use Rattle.nuclei.specs.Nuclei.{one_nucleus, louder}
use Rattle.nuclei.proofs.Choice.{louder_picks}
use Rattle.nuclei.proofs.merging.merged.Goals as goal

pub merge_marked-requires : goal.merge_marked-requires
merge_marked-requires g c = (
  omega arith,
  (
    (omega arith, omega arith),
    (
      (λ i h. search rules),
      (
        (λ a b h k. search rules),
        (λ a b r h k p.
            let e : r ≡ louder c.args.s.now a b = search rules in
            rw e (louder_picks c.args.s.now a b)),
      ),
    ),
  ),
)

pub returns : goal.returns
unfolding in_order
returns g c =
    c.merge_marked.ensures (member c.args.cands.now) (one_nucleus c.args.s.now c.args.syllables.now c.args.p) (louder c.args.s.now)
    (λ i h r p. search rules)
    (λ a b h k. ((λ r p. search rules), (λ r p. search rules)))
