-- `Window::cross` meets its contract. The loop's invariant: the products added so far, with those of the pairs still to come, are the whole sum. Assumes nothing.
use Rattle.std.specs.Iterator.Adapters.{zip_first, zip_second}
use Rattle.std.specs.Slice.Iter.{iter_rest}
use Rattle.std.proofs.Common.{drop}
use Rattle.nsdf.proofs.Summing.{Crossed}
use Rattle.nsdf.specs.Nsdf.{cross}
use Rattle.nsdf.proofs.sums.Window.cross.Given as goal

abbrev pub invariant-loop-x : goal.invariant-loop-x
invariant-loop-x l =
    let it = l.x-iterator in
    Crossed (cross l.self.samples.now (drop l.lag l.self.samples.now)) l.sum (iter_rest (zip_first it)) (iter_rest (zip_second it))
