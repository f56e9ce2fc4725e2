-- `period::measure` meets its contract: what the library answers of the lags. Assumes nothing.
use Rattle.std.proofs.Common.{rules, tests, ◌+◌}
use Rattle.nsdf.specs.Nsdf.{nsdf}
use Rattle.nsdf.specs.Period.{measured}
use Rattle.nsdf.proofs.Peaks.{list_of_calls}
use Rattle.nsdf.proofs.period.measure.Goals as goal

pub returns : goal.returns
unfolding measured
returns c =
    let w = c.args.window.samples.now in
    list_of_calls _ (λ k. nsdf w (31 + k)) (λ i y q k. search (rules, tests)) c.from_fn.result 200 c.from_fn.ensures.items
