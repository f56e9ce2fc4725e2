-- `nuclei::tops::run_tops` meets its contract: what there is, with the tops of the runs from k on, is the whole. Assumes nothing.
use native.Mathlib.Omega.{arith}
use Prim.Native.Nat.{◌≤◌}
use mathlib.Core.Path.{◌≡◌, sym, ◌∙◌}
use mathlib.Core.Bool.{false}
use mathlib.Core.List.{append-nil, ◌++◌}
use lib.ListN.{length, length-append}
use Rattle.lists.specs.Marks.{member}
use Rattle.nuclei.proofs.Steps.{to_come, pick_room, pick_yes, pick_no, come_few, come_held, come_unheld, come_over}
use Rattle.nuclei.proofs.tops.run_tops.Goals as goal
use Rattle.nuclei.proofs.tops.run_tops.Goals.{then-not-is_held-k+in-Some, then-not-is_held-k+in_default, else-not-is_held-k}

pub push-requires : goal.push-requires
push-requires g c =
    let a = c.args in
    let u : member a.held.now c.loop-k.k ≡ false = sym (c.marks-is_held.ensures c.loop-k.k (omega arith)) ∙ c.if-not-is_held-k.true in
    let s = rw (come_unheld _ _ _ _ _ _ c.loop-k-test.true u) at c.loop-k.invariant in
    let few = come_few a.r.level.now a.r.bounds a.dip a.held.now a.runs.now in
    let all : length (a.out.now.items ++ to_come a.r.level.now a.r.bounds a.dip a.held.now a.runs.now 0) ≤ g.row.N = simp length-append (omega arith) in
    let top = rw c.in-Some.is at c.top_of.ensures in
    (omega arith, pick_room _ _ _ _ s top.0 (omega arith))

pub loop-k-preserved : goal.loop-k-preserved
loop-k-preserved g c =
    let a = c.args in
    let mark = c.marks-is_held.ensures c.loop-k.k (omega arith) in
    let h = c.loop-k-test.true in
    elim c.if-not-is_held-k.branch [
      | then-not-is_held-k+in-Some w ↦
          let top = rw w.in-Some.is at w.top_of.ensures in
          rw (w.out-is, w.push.ensures.items, top.1) (pick_yes _ _ _ _ (rw (come_unheld _ _ _ _ _ _ h (sym mark ∙ w.if-not-is_held-k.true)) at c.loop-k.invariant) top.0)
      | then-not-is_held-k+in_default w ↦
          rw w.out-is (pick_no _ _ _ _ (rw (come_unheld _ _ _ _ _ _ h (sym mark ∙ w.if-not-is_held-k.true)) at c.loop-k.invariant) (rw w.in_default.is at w.top_of.ensures))
      | else-not-is_held-k w ↦ rw w.out-is (rw (come_held _ _ _ _ _ _ h (sym mark ∙ w.if-not-is_held-k.false)) at c.loop-k.invariant)
    ]

pub returns : goal.returns
returns g c = sym (append-nil _) ∙ rw (come_over _ _ _ _ _ _ c.loop-k-test.false) at c.loop-k.invariant
