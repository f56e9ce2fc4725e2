-- `take::file::read_marks` meets its contract. The loop's invariant: the marks of the first i records are read. Assumes nothing.
use Prim.Native.Nat.{ℕ}
use mathlib.Core.List.{List}
use lib.ListN.{get_or}
use Rattle.take.proofs.Records.{Taking}
use Rattle.take.proofs.file.read_marks.Given as goal

abbrev pub invariant-loop-i : goal.invariant-loop-i
invariant-loop-i l = Taking (λ (r : List ℕ). get_or r 16 0) l.file l.initial.marks l.marks l.i
