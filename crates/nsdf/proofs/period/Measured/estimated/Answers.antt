-- `Measured::estimated` meets its contract. Assumes nothing.
use mathlib.Core.Path.{sym, ◌∙◌}
use Rattle.std.specs.Prelude.{None, Some}
use Rattle.nsdf.proofs.Literals.{sixteen_thousand}
use Rattle.nsdf.proofs.Peaks.{peak_within}
use Rattle.nsdf.proofs.Estimating.{too_low, high_enough}
use Rattle.nsdf.proofs.period.Measured.estimated.Goals as goal

pub returns-then-best : goal.returns-then-best
returns-then-best c = too_low c.args.self.at.now c.best_peak-best.result c.best_peak-best.ensures c.if-best.true

pub returns-in_err-k : goal.returns-in_err-k
returns-in_err-k c = c.from_residual.ensures ∙ high_enough c.args.self.at.now c.best_peak-best.result c.best_peak-best.ensures c.if-best.false None c.in_err-k.ensures

pub refined-requires : goal.refined-requires
refined-requires c = peak_within c.args.self.at.now _ _ (sym c.in_ok-k.ensures)

pub returns : goal.returns
returns c =
    rw (c.refined.ensures, sixteen_thousand)
    (high_enough c.args.self.at.now c.best_peak-best.result c.best_peak-best.ensures c.if-best.false (Some c.in_ok-k.k) c.in_ok-k.ensures)
