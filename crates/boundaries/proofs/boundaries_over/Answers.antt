-- `boundaries::boundaries_over` meets its contract: the stages one after the other, and the frames that are kept in the end. Assumes nothing.
use native.Mathlib.Omega.{arith}
use Prim.Native.Nat.{ℕ, ◌+◌, ◌≤◌}
use mathlib.Core.Path.{sym, ap, subst, ◌∙◌}
use mathlib.Core.Bool.{Bool}
use lib.ListN.{length}
use Rattle.std.proofs.lemmas.List.{length-take-le}
use Rattle.lists.proofs.Fill.{keep_fits}
use Rattle.boundaries.specs.Keeping.{ends}
use Rattle.boundaries.specs.Taken.{marked, AddedInTurn}
use Rattle.boundaries.specs.Edges.{pause_edges, voicing_edges}
use Rattle.boundaries.specs.Boundaries.{edges, creaky}
use Rattle.boundaries.proofs.Cells.{add_then}
use Rattle.boundaries.proofs.Turns.{pauses_keyed, voicings_keyed}
use Rattle.boundaries.proofs.Whole.{whole_frames, copied}
use Rattle.boundaries.proofs.boundaries_over.Goals as goal
use Rattle.boundaries.proofs.boundaries_over.Goals.{After-len-n}

pub add_edges-requires-clause-keyed : goal.add_edges-requires-clause-keyed
unfolding pause_edges
add_edges-requires-clause-keyed c = pauses_keyed _ _ _ _ (omega arith)

pub add_edges-requires-2-clause-keyed : goal.add_edges-requires-2-clause-keyed
unfolding voicing_edges
add_edges-requires-2-clause-keyed c = voicings_keyed _ _ _ _ _ (omega arith)

-- the frames fit in what is lent
fits : (c : After-len-n) → c.len-n.result ≤ length c.args.out.now
fits c =
    let n = length c.args.t.level.now in
    omega (arith, c.len-n.ensures.value ∙ ap length c.frames.ensures, keep_fits (λ x. marked c.add_minima.new.kept.marks (x + 2)) 0 (n + 1))

pub slice_bounds-copy_from_slice-end : goal.slice_bounds-copy_from_slice-end
slice_bounds-copy_from_slice-end c = fits c

pub slice_bounds-copy_from_slice-end-2 : goal.slice_bounds-copy_from_slice-end-2
slice_bounds-copy_from_slice-end-2 c = sym (length-take-le _ _ (fits (goal.at.slice_bounds-copy_from_slice-end-2 c).After-len-n))

pub copy_from_slice-requires : goal.copy_from_slice-requires
copy_from_slice-requires c = length-take-le _ _ (fits (goal.at.copy_from_slice-requires c).After-len-n) ∙ c.len-n.ensures.value ∙ ap length (sym c.deref.ensures.0)

pub returns : goal.returns
unfolding pause_edges voicing_edges
returns c =
    let t = c.args.t in
    let e = c.creaks-skip.ensures in
    let edged : AddedInTurn (edges t.db.now t.level.now t.pitch.now t.voiced.now t.bounds c.args.dip (creaky t.db.now t.pitch.now t.bounds.threshold) c.args.nuclei.now) c.ends-kept.result c.add_edges-2.new.kept =
    subst (λ (skip : ℕ → Bool). AddedInTurn (edges t.db.now t.level.now t.pitch.now t.voiced.now t.bounds c.args.dip skip c.args.nuclei.now) c.ends-kept.result c.add_edges-2.new.kept) e
    (add_then c.add_joints.ensures (add_then c.add_edges.ensures c.add_edges-2.ensures)) in
    let kept = rw c.ends-kept.ensures.1 at (edged.adds (ends t.bounds.start t.bounds.end) c.ends-kept.ensures.0) in
    let all = whole_frames t.db.now t.level.now t.pitch.now t.voiced.now t.bounds c.args.dip c.args.nuclei.now (omega arith) (omega arith)
    kept (edged.cap ∙ c.ends-kept.ensures.1) (rw e at c.add_minima.ensures) in
    copied (c.frames.ensures ∙ all) c.len-n.ensures.value (c.copy_from_slice.ensures.after ∙ c.deref.ensures.0)
