-- `extra::write_extras` meets its contract: what the frames from i on give is to come. Assumes nothing.
use mathlib.Core.List.{map}
use lib.ListN.{drop, length}
use Rattle.lists.specs.Marks.{in_order}
use Rattle.lists.proofs.Fill.{Filling}
use Rattle.nuclei.specs.Nuclei.{nucleus_at, strengths_of}
use Rattle.extra.proofs.write_extras.Given as goal

abbrev pub invariant-loop-i : goal.invariant-loop-i
invariant-loop-i l =
    let fs = in_order l.cands (length l.s) in
    Filling (strengths_of (map (nucleus_at l.s l.floor) fs)) (strengths_of (map (nucleus_at l.s l.floor) (drop l.i fs))) l.initial.strengths l.strengths l.i
