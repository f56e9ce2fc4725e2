-- `runs::near::run_of` meets its contract: the search goes on from the nearest run so far, by `Searching`. Assumes nothing.
use Rattle.lists.proofs.Fill.{drop_step}
use Rattle.runs.proofs.Nearest.{searching_start, searching_nearer, searching_on, searching_end}
use Rattle.runs.proofs.near.run_of.Goals as goal
use Rattle.runs.proofs.near.run_of.Goals.{then-e-d, else-e-d}

pub loop-k-init : goal.loop-k-init
loop-k-init c = searching_start _ _

pub loop-k-preserved : goal.loop-k-preserved
loop-k-preserved c =
    let next = drop_step c.args.runs.now c.loop-k.k (record { first = 0; last = 0 }) c.loop-k-test.true in
    let g = c.loop-k.invariant in
    let d = c.distance-e.ensures in
    elim c.if-e-d.branch [
      | then-e-d w ↦ rw (w.best-is, w.d-is, d) (searching_nearer _ _ _ next g (rw d at w.if-e-d.true))
      | else-e-d w ↦ rw (w.best-is, w.d-is) (searching_on _ _ _ next g (rw d at w.if-e-d.false))
    ]

pub returns : goal.returns
returns c = searching_end _ _ c.loop-k-test.false c.loop-k.invariant
