-- `take::file::read_track` meets its contract. The loop's invariant: the values of the first i records are read. Assumes nothing.
use Prim.Native.Nat.{ℕ}
use mathlib.Core.List.{List}
use Rattle.take.specs.Fields.{float_at}
use Rattle.take.proofs.Records.{Taking}
use Rattle.take.proofs.file.read_track.Given as goal

abbrev pub invariant-loop-i : goal.invariant-loop-i
invariant-loop-i l = Taking (λ (r : List ℕ). float_at r l.at) l.file l.initial.track l.track l.i
