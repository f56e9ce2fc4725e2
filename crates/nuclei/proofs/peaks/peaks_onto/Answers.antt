-- `nuclei::peaks::peaks_onto` meets its contract: what there is, with what the peaks that are left give, is the whole. Assumes nothing.
use native.Mathlib.Omega.{arith}
use mathlib.Core.Path.{sym, ◌∙◌}
use mathlib.Core.List.{append-nil, ◌++◌}
use Prim.Native.Nat.{◌≤◌}
use lib.ListN.{length, length-append}
use Rattle.nuclei.specs.Peaks.{peaks_onto}
use Rattle.nuclei.proofs.Steps.{pick_room, pick_yes, pick_no, onto_few, onto_step, onto_over}
use Rattle.nuclei.proofs.peaks.peaks_onto.Goals as goal
use Rattle.nuclei.proofs.peaks.peaks_onto.Goals.{then-voiced_peak, else-voiced_peak}

pub push-requires : goal.push-requires
push-requires g c =
    let a = c.args in
    let s = rw (onto_step _ _ _ _ _ _ c.loop-x-test.true) at c.loop-x.invariant in
    let few = onto_few a.r.level.now a.pitch.now a.r.bounds a.runs.now a.peaks.now in
    let all : length (a.out.now.items ++ peaks_onto a.r.level.now a.pitch.now a.r.bounds a.runs.now a.peaks.now) ≤ g.row.N = simp length-append (omega arith) in
    (omega arith, pick_room _ _ _ _ s (sym c.voiced_peak.ensures ∙ c.if-voiced_peak.true) (omega arith))

pub loop-x-preserved : goal.loop-x-preserved
loop-x-preserved g c =
    let s = rw (onto_step _ _ _ _ _ _ c.loop-x-test.true) at c.loop-x.invariant in
    elim c.if-voiced_peak.branch [
      | then-voiced_peak w ↦ rw (w.out-is, w.push.ensures.items, w.onto_run.ensures) (pick_yes _ _ _ _ s (sym c.voiced_peak.ensures ∙ w.if-voiced_peak.true))
      | else-voiced_peak w ↦ rw w.out-is (pick_no _ _ _ _ s (sym c.voiced_peak.ensures ∙ w.if-voiced_peak.false))
    ]

pub returns : goal.returns
returns g c = sym (append-nil _) ∙ rw (onto_over _ _ _ _ _ _ c.loop-x-test.false) at c.loop-x.invariant
