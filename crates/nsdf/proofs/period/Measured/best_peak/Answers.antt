-- `Measured::best_peak` meets its contract. The loop's invariant: `best` with the peaks from k on is the best of all. Assumes nothing.
use Prim.Native.Nat.{◌+◌}
use mathlib.Core.Path.{sym, ap, ◌∙◌}
use lib.Ieee.{Float, of_bits}
use Rattle.nsdf.proofs.Peaks.{best_from, best_first, best_last, best_peak_lem, best_none}
use Rattle.nsdf.proofs.period.Measured.best_peak.Goals as goal
use Rattle.nsdf.proofs.period.Measured.best_peak.Goals.{then-is_peak, else-is_peak}

pub loop-k-init : goal.loop-k-init
unfolding of_bits
loop-k-init c = best_first c.args.self.at.now

pub loop-k-preserved : goal.loop-k-preserved
loop-k-preserved c =
    let d = c.args.self.at.now in
    let l = c.loop-k in
    elim c.if-is_peak.branch [
      | then-is_peak w ↦ ap (λ (x : Float). best_from d x (l.k + 1)) (w.best-is ∙ w.larger-best.ensures) ∙ best_peak_lem d l.k c.loop-k-test.true l.best (sym c.is_peak.ensures ∙ w.if-is_peak.true) ∙ l.invariant
      | else-is_peak w ↦ ap (λ (x : Float). best_from d x (l.k + 1)) w.best-is ∙ best_none d l.k c.loop-k-test.true l.best (sym c.is_peak.ensures ∙ w.if-is_peak.false) ∙ l.invariant
    ]

pub returns : goal.returns
returns c = sym (best_last c.args.self.at.now c.loop-k.best c.loop-k.k c.loop-k-test.false) ∙ c.loop-k.invariant
