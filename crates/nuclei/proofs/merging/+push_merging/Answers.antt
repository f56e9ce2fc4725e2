-- `nuclei::merging::push_merging` meets its contract; the measure is the count of the kept frames. Assumes nothing.
use native.Mathlib.Omega.{arith}
use Prim.Native.Nat.{◌<◌, ◌+◌}
use contract.BorrowLft.{⊑_static}
use mathlib.Core.Path.{refl, sym, ◌∙◌}
use Rattle.lists.proofs.Stacks.{falls_under}
use Rattle.nuclei.proofs.Merge.{rest_fewer, falls_prev, falls_left, left_within, falls_snoc, merge_none, merge_pop, merge_push}
use Rattle.nuclei.proofs.merging.+push_merging.Goals as goal

pub returns-in_default : goal.returns-in_default
returns-in_default g t c = record {
  order = rw c.push.ensures.items (falls_snoc c.args.kept.now.items c.args.x c.requires.later);
  same = λ one left h. rw c.push.ensures.items (merge_none one left c.args.kept.now.items c.args.x (rw c.deref.ensures.0 at (sym c.last.ensures.value ∙ sym c.copied.ensures ∙ c.in_default.is)));
}

pub push_merging-requires : goal.push_merging-requires
push_merging-requires g t c κs within =
    let prev = c.in-Some.prev in
    let last = rw c.deref.ensures.0 at (sym c.last.ensures.value ∙ sym c.copied.ensures ∙ c.in-Some.is) in
    let fewer = rest_fewer c.args.kept.now.items _ prev last c.pop.ensures.rest in
    let before : prev < c.args.x = falls_prev _ _ prev last c.pop.ensures.rest c.args.x c.requires.later in
    let picked = c.requires.picks prev c.args.x c.stays.result before (omega arith) c.stays.ensures in
    let low = left_within _ _ prev last c.pop.ensures.rest c.args.x c.requires.later c.stays.result picked in (
      omega arith,
      (
        within.0,
        (
          within.1,
          (
            ⊑_static _,
            (
              omega arith,
              (
                omega arith,
                (
                  falls_left _ _ prev last c.pop.ensures.rest c.args.x c.requires.later c.stays.result picked,
                  (
                    (λ a b h k. c.requires.asks a b h (omega arith)),
                    (λ a b r h k p. c.requires.picks a b r h (omega arith) p),
                  ),
                ),
              ),
            ),
          ),
        ),
      ),
    )

pub returns-then-are_one : goal.returns-then-are_one
returns-then-are_one g t c =
    let prev = c.in-Some.prev in
    let last = rw c.deref.ensures.0 at (sym c.last.ensures.value ∙ sym c.copied.ensures ∙ c.in-Some.is) in
    let rest = c.pop.ensures.rest in
    let before : prev < c.args.x = falls_prev _ _ prev last rest c.args.x c.requires.later in
    let picked = c.requires.picks prev c.args.x c.stays.result before (omega arith) c.stays.ensures in
    let low = left_within _ _ prev last rest c.args.x c.requires.later c.stays.result picked in record {
      order = falls_under _ (c.args.x + 1) _ (omega arith) c.push_merging.ensures.order;
      same = λ one left h.
          let told = h prev c.args.x before (omega arith) in
          merge_pop _ _ prev last rest one left c.args.x c.push_merging.new.kept.items
          (sym (told.0 c.are_one.result c.are_one.ensures) ∙ c.if-are_one.true)
          (told.1 c.stays.result c.stays.ensures)
          (c.push_merging.ensures.same one left (λ a b u w. h a b u (omega arith)));
    }

pub returns-else-are_one : goal.returns-else-are_one
returns-else-are_one g t c =
    let prev = c.in-Some.prev in
    let last = rw c.deref.ensures.0 at (sym c.last.ensures.value ∙ sym c.copied.ensures ∙ c.in-Some.is) in
    let before : prev < c.args.x = falls_prev c.args.kept.now.items _ prev last refl c.args.x c.requires.later in record {
      order = rw c.push-else-are_one.ensures.items (falls_snoc c.args.kept.now.items c.args.x c.requires.later);
      same = λ one left h. rw c.push-else-are_one.ensures.items (merge_push c.args.kept.now.items _ prev last refl one left c.args.x (sym ((h prev c.args.x before (omega arith)).0 c.are_one.result c.are_one.ensures) ∙ c.if-are_one.false));
    }
