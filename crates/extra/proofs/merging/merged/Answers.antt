-- `extra::merging::merged` meets its contract. Assumes nothing.
use native.Mathlib.Omega.{arith}
use mathlib.Core.Path.{◌≡◌}
use mathlib.Core.List.{◌++◌}
use lib.ListN.{length}
use Rattle.std.proofs.Common.{rules}
use Rattle.lists.specs.Marks.{member, in_order}
use Rattle.lists.proofs.Members.{member_append, strict_below, strict_to}
use Rattle.extra.specs.Merging.{mark_at, one_syllable, survivor, anchors}
use Rattle.extra.proofs.Anchoring.{marked_is, survivor_picks}
use Rattle.extra.proofs.merging.merged.Goals as goal

pub merge_marked-requires : goal.merge_marked-requires
merge_marked-requires g c = (
  omega arith,
  (
    (omega arith, omega arith),
    (
      (λ i h. search rules),
      (
        (λ a b h k. search rules),
        (λ a b r h k p.
            let e : r ≡ survivor c.args.s.now (mark_at c.marks-is_peak.result) a b = search rules in
            rw e (survivor_picks c.args.s.now (mark_at c.marks-is_peak.result) a b)),
      ),
    ),
  ),
)

pub returns : goal.returns
unfolding anchors in_order
returns g c =
    let m = c.marks-is_peak in
    let k : length m.result ≡ 2048 = search (rules, m.type_inv) in
    let e = marked_is c.args.peaks.now m.result m.ensures k (strict_below 0 2048 c.args.peaks.now (strict_to 0 (length c.args.s.now) 2048 c.args.peaks.now c.requires.0 c.requires.1)) in
    rw e at
    (c.merge_marked.ensures (member (c.args.nuclei.now ++ c.args.peaks.now)) (one_syllable c.args.s.now c.args.p (mark_at m.result)) (survivor c.args.s.now (mark_at m.result))
    (λ i h r p. search (rules, member_append c.args.nuclei.now c.args.peaks.now i, c.marks-is_nucleus.ensures i (omega arith), m.ensures i (omega arith)))
    (λ a b h k. ((λ r p. search rules), (λ r p. search rules))))
