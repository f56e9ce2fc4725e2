-- `Window::running_sums` meets its contract. The loop's invariant: the sums up to i are there, and `sum` is the last of them. Assumes nothing.
use Rattle.nsdf.proofs.Differences.{Filled}
use Rattle.nsdf.proofs.sums.Window.running_sums.Given as goal

abbrev pub invariant-loop-i : goal.invariant-loop-i
invariant-loop-i l = Filled l.self.samples.now l.sums l.sum l.i
