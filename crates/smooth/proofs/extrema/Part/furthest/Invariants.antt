-- `smooth::extrema::Part::furthest` meets its contract. The furthest so far, with the frames that are left, gives the furthest of the part. Assumes nothing.
use Rattle.std.proofs.Common.{◌≡◌, drop}
use mathlib.Core.List.{foldl}
use Rattle.smooth.specs.Extrema.{further, unreached}
use Rattle.smooth.proofs.extrema.Part.furthest.Given as goal

abbrev pub invariant-loop-x : goal.invariant-loop-x
invariant-loop-x l = foldl (further l.kind) l.m (drop l.x-index l.part) ≡ foldl (further l.kind) (unreached l.kind) l.part
