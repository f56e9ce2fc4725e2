-- `extra::split::split` meets its contract: the best split before frame k is found, by `Cutting`. Assumes nothing.
use native.Mathlib.Omega.{arith}
use mathlib.Core.Path.{sym, ◌∙◌}
use lib.Ieee.{of_bits, round}
use Rattle.extra.proofs.Cuts.{cut_start, cut_yes, cut_no, cut_end}
use Rattle.extra.proofs.split.split.Goals as goal
use Rattle.extra.proofs.split.split.Goals.{then-is_better, else-is_better}

pub loop-k-init : goal.loop-k-init
unfolding of_bits round
loop-k-init c = cut_start _ _ _

pub loop-k-preserved : goal.loop-k-preserved
loop-k-preserved c =
    let g = c.loop-k.invariant in
    let e = c.change_at-change.ensures in
    let f = c.is_better.ensures in
    elim c.if-is_better.branch [
      | then-is_better w ↦ rw (w.best-is, w.most-is, e) (cut_yes _ _ _ g (omega arith) (rw e at (sym f ∙ w.if-is_better.true)))
      | else-is_better w ↦ rw (w.best-is, w.most-is) (cut_no _ _ _ g (omega arith) (rw e at (sym f ∙ w.if-is_better.false)))
    ]

pub returns : goal.returns
returns c = cut_end _ _ _ c.loop-k.invariant (omega arith)
