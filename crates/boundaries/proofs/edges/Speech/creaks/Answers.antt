-- `boundaries::edges::Speech::creaks` meets its contract. The loop's invariant: the dropouts from gap on are left to mark. Assumes nothing.
use native.Mathlib.Omega.{arith}
use Rattle.boundaries.proofs.Spreading.{spreading_start, spreading_on, spreading_same, spreading_end, creaks_yes, creaks_no, creaks_over}
use mathlib.Core.Path.{sym, ◌∙◌}
use Rattle.region.specs.Speech.{speech_at}
use Rattle.boundaries.specs.Edges.{creaks}
use Rattle.boundaries.proofs.Spreading.{gap_wide}
use Rattle.boundaries.proofs.edges.Speech.creaks.Goals as goal
use Rattle.boundaries.proofs.edges.Speech.creaks.Goals.{then-fills, else-fills}

pub loop-gap-init : goal.loop-gap-init
loop-gap-init c = spreading_start _

pub mark_frames-requires : goal.mark_frames-requires
mark_frames-requires c =
    let w = gap_wide c.args.pitch.now (c.as_slice-gap-items.ensures.value ∙ c.dropouts-gaps.ensures) c.loop-gap.gap-index c.loop-gap-test.true in
    (omega (arith, w), omega (arith, w, c.requires))

pub loop-gap-preserved : goal.loop-gap-preserved
loop-gap-preserved c =
    let t = speech_at c.args.self.threshold c.args.self.db.now in
    elim c.if-fills.branch [
      | then-fills w ↦ rw w.marks-is (spreading_on _ (creaks_yes t _ _ c.loop-gap-test.true (sym c.fills.ensures ∙ w.if-fills.true)) w.mark_frames.ensures c.loop-gap.invariant)
      | else-fills w ↦ rw w.marks-is (spreading_same (creaks_no t _ _ c.loop-gap-test.true (sym c.fills.ensures ∙ w.if-fills.false)) c.loop-gap.invariant)
    ]

pub returns : goal.returns
unfolding creaks
returns c =
    spreading_end (creaks_over (speech_at c.args.self.threshold c.args.self.db.now) _ _ c.loop-gap-test.false) c.loop-gap.invariant
    ∙ rw (c.as_slice-gap-items.ensures.value, c.dropouts-gaps.ensures)
