-- `smooth::level::mean` meets its contract. What is summed, with the entries that are left, is the sum of the part. Assumes nothing.
use Rattle.std.proofs.Common.{◌≡◌, drop}
use mathlib.Core.List.{foldl}
use Rattle.std.specs.Float.{binary32}
use Rattle.std.specs.Float.Ieee.{add}
use Rattle.smooth.specs.Level.{sum_of}
use Rattle.smooth.proofs.level.mean.Given as goal

abbrev pub invariant-loop-x : goal.invariant-loop-x
invariant-loop-x l = foldl (add binary32) l.sum (drop l.x-index l.part) ≡ sum_of l.part
