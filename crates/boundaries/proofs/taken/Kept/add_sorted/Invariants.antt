-- `boundaries::taken::Kept::add_sorted` meets its contract. The loop's invariant: the frames of the keys from key on are left to try. Assumes nothing.
use mathlib.Core.List.{map}
use lib.ListN.{drop}
use Rattle.lists.specs.Candidates.{frame_in}
use Rattle.boundaries.proofs.Cells.{Trying}
use Rattle.boundaries.proofs.taken.Kept.add_sorted.Given as goal

abbrev pub invariant-loop-key : goal.invariant-loop-key
invariant-loop-key l = Trying (map frame_in l.key-items) (map frame_in (drop l.key-index l.key-items)) l.initial.self l.self
