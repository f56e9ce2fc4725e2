-- `nuclei::tops::runs_held` meets its contract: what is held, with what the frames that are left give, is the whole. Assumes nothing.
use mathlib.Core.Path.{◌≡◌}
use mathlib.Core.List.{◌++◌}
use lib.ListN.{drop}
use Rattle.nuclei.specs.Tops.{runs_held}
use Rattle.nuclei.proofs.tops.runs_held.Given as goal

abbrev pub invariant-loop-x : goal.invariant-loop-x
invariant-loop-x g l = l.held.items ++ runs_held l.runs (drop l.x-index l.frames) ≡ runs_held l.runs l.frames
