-- `boundaries::taken::Kept::frames` meets its contract. The loop's invariant: the frames so far, with the kept ones from x on, are all. Assumes nothing.
use Prim.Native.Nat.{◌+◌, ◌-◌}
use mathlib.Core.Path.{◌≡◌}
use mathlib.Core.List.{◌++◌}
use Rattle.lists.specs.Results.{keep}
use Rattle.boundaries.specs.Taken.{marked, taken_frames}
use Rattle.boundaries.proofs.taken.Kept.frames.Given as goal

abbrev pub invariant-loop-x : goal.invariant-loop-x
invariant-loop-x l = l.frames.items ++ keep (λ x. marked l.self.marks (x + 2)) l.x (l.n + 1 - l.x) ≡ taken_frames l.self.marks l.n
