-- `Squares::power` meets its contract. Assumes nothing.
use native.Mathlib.Omega.{arith}
use mathlib.Core.Path.{sym}
use Rattle.nsdf.proofs.Summing.{power_end}
use Rattle.nsdf.proofs.Differences.{not_less, power_is, power_fits}
use Rattle.nsdf.proofs.sums.Squares.power.Goals as goal

pub returns-then-n-lag-clause-value : goal.returns-then-n-lag-clause-value
returns-then-n-lag-clause-value c = sym (power_end c.args.self.now.window.samples.now c.args.self.now.window.samples.now c.args.lag c.if-n-lag.true)

pub overflow_sub-result-2 : goal.overflow_sub-result-2
overflow_sub-result-2 c = not_less c.args.self.now.window.samples.now c.args.self.now.sums.now c.args.lag c.args.self.now.running c.if-n-lag.false

pub overflow_add-result : goal.overflow_add-result
overflow_add-result c = omega (arith, power_fits c.args.self.now.window.samples.now c.args.self.now.sums.now c.args.lag c.args.self.now.running c.if-n-lag.false)

pub returns-clause-value : goal.returns-clause-value
returns-clause-value c = power_is c.args.self.now.window.samples.now c.args.self.now.sums.now c.args.lag c.args.self.now.running c.if-n-lag.false

pub returns-clause-upper_bound : goal.returns-clause-upper_bound
returns-clause-upper_bound c = power_fits c.args.self.now.window.samples.now c.args.self.now.sums.now c.args.lag c.args.self.now.running c.if-n-lag.false
