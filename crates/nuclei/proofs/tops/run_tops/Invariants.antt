-- `nuclei::tops::run_tops` meets its contract: what there is, with the tops of the runs from k on, is the whole. Assumes nothing.
use mathlib.Core.Path.{◌≡◌}
use mathlib.Core.List.{◌++◌}
use Rattle.nuclei.proofs.Steps.{to_come}
use Rattle.nuclei.proofs.tops.run_tops.Given as goal

abbrev pub invariant-loop-k : goal.invariant-loop-k
invariant-loop-k g l = l.out.items ++ to_come l.r.level.now l.r.bounds l.dip l.held l.runs l.k ≡ l.initial.out.items ++ to_come l.r.level.now l.r.bounds l.dip l.held l.runs 0
