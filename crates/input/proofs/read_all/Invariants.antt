-- `input::read_all` meets its contract. The loop's invariant: the file and the count are what some pieces leave, one after the other; each turn adds the one that was read. The measure is how many bytes are left to `most`, and one. Assumes nothing.
use Prim.Native.Nat.{ℕ, ◌+◌, ◌-◌}
use mathlib.Core.Path.{◌≡◌}
use mathlib.Core.List.{List}
use lib.ListN.{length}
use Rattle.std.specs.Io.KnownBytes.{Consumes}
use Rattle.input.specs.Held.{Added, pieces_joined}
use Rattle.input.proofs.read_all.Given as goal

abbrev pub invariant-loop-total : goal.invariant-loop-total
invariant-loop-total g l = (65536 ≡ length l.chunk) × (length l.file ≡ length l.initial.file) × ((pieces : List (List ℕ)) × Added pieces l.initial.file 0 l.file l.total × Consumes (g.R.Read.remaining l.fn.input) (g.R.Read.remaining l.input) (pieces_joined pieces))

abbrev pub decreases-loop-total : goal.decreases-loop-total
decreases-loop-total g l = l.most + 1 - l.total
