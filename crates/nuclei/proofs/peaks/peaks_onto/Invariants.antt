-- `nuclei::peaks::peaks_onto` meets its contract: what there is, with what the peaks that are left give, is the whole. Assumes nothing.
use mathlib.Core.Path.{◌≡◌}
use mathlib.Core.List.{◌++◌}
use lib.ListN.{drop}
use Rattle.nuclei.specs.Peaks.{peaks_onto}
use Rattle.nuclei.proofs.peaks.peaks_onto.Given as goal

abbrev pub invariant-loop-x : goal.invariant-loop-x
invariant-loop-x g l = l.out.items ++ peaks_onto l.r.level.now l.pitch l.r.bounds l.runs (drop l.x-index l.peaks) ≡ l.initial.out.items ++ peaks_onto l.r.level.now l.pitch l.r.bounds l.runs l.peaks
