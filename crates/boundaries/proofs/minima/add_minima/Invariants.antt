-- `boundaries::minima::add_minima` meets its contract. The loop's invariant: the keys so far, with those of the minima from m on, are all. Assumes nothing.
use mathlib.Core.Path.{◌≡◌}
use mathlib.Core.Bool.{not, ◌&&◌}
use mathlib.Core.List.{◌++◌}
use lib.ListN.{drop}
use Rattle.boundaries.specs.Taken.{marked}
use Rattle.boundaries.proofs.Turns.{keyed}
use Rattle.boundaries.proofs.minima.add_minima.Given as goal

abbrev pub invariant-loop-m : goal.invariant-loop-m
invariant-loop-m l = l.keys.items ++ keyed l.level (λ i. marked l.spans i && not (marked l.skip i)) (drop l.m-index l.m-items)
    ≡ keyed l.level (λ i. marked l.spans i && not (marked l.skip i)) l.m-items
