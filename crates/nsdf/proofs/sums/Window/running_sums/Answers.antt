-- `Window::running_sums` meets its contract. The loop's invariant: the sums up to i are there, and `sum` is the last of them. Assumes nothing.
use Rattle.std.proofs.Common.{◌≡◌, rules, pos, get_or}
use Rattle.nsdf.specs.Nsdf.{square}
use Rattle.nsdf.proofs.Differences.{fill_first, fill_turn}
use Rattle.nsdf.proofs.sums.Window.running_sums.Goals as goal

pub loop-i-init : goal.loop-i-init
loop-i-init c = fill_first c.args.self.samples.now

pub loop-i-preserved : goal.loop-i-preserved
loop-i-preserved c =
    let w = c.args.self.samples.now in
    let v = c.loop-i in
    let s = c.squared-sum in
    let e : s.result ≡ square (get_or w v.i (pos 0)) = search rules in
    fill_turn w v.sums v.sum v.i s.result c.args.self.short v.invariant c.loop-i-test.true e s.ensures.upper_bound
