-- `nuclei::write_nuclei` meets its contract: what the frames from i on give is to come. Assumes nothing.
use mathlib.Core.List.{map}
use lib.ListN.{drop}
use Rattle.lists.proofs.Fill.{Filling}
use Rattle.nuclei.specs.Nuclei.{nucleus_at, frames_of, strengths_of}
use Rattle.nuclei.proofs.write_nuclei.Given as goal

abbrev pub invariant-loop-i : goal.invariant-loop-i
invariant-loop-i l = Filling (frames_of (map (nucleus_at l.s l.floor) l.kept)) (frames_of (map (nucleus_at l.s l.floor) (drop l.i l.kept))) l.initial.frames l.frames l.i
    × Filling (strengths_of (map (nucleus_at l.s l.floor) l.kept)) (strengths_of (map (nucleus_at l.s l.floor) (drop l.i l.kept))) l.initial.strengths l.strengths l.i
