-- `period_hz` meets its contract. Assumes nothing.
use Rattle.std.proofs.Common.{arith, ap, ◌∙◌}
use mathlib.Core.List.{List}
use lib.IntN.{ℤ}
use Rattle.nsdf.specs.Period.{measured, estimated, period_hz}
use Rattle.nsdf.proofs.Windows.{window_part}
use Rattle.nsdf.proofs.period.period_hz.Goals as goal

pub returns : goal.returns
unfolding period_hz
returns c =
    c.estimated.ensures
    ∙ ap estimated c.measure-at.ensures
    ∙ ap (λ (w : List ℤ). estimated (measured w)) (window_part c.args.samples.now c.args.centre _ _ (omega arith) (omega arith))
