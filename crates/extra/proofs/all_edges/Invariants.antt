-- `extra::all_edges` meets its contract: what there is, with what is left of the one list and then of the other, is the whole. Assumes nothing.
use mathlib.Core.Path.{◌≡◌}
use mathlib.Core.List.{◌++◌, map}
use lib.ListN.{drop, length}
use Rattle.std.specs.Slice.Iter.{windows_rest, windows_size}
use Rattle.lists.specs.Sorted.{StrictlyRises}
use Rattle.extra.specs.Merging.{mark_at}
use Rattle.extra.specs.Seconds.{edge_of}
use Rattle.extra.specs.Extra.{edges_between}
use Rattle.extra.proofs.all_edges.Given as goal

abbrev pub invariant-loop-pair : goal.invariant-loop-pair
invariant-loop-pair l =
    let left = windows_rest l.pair-iterator in
    (windows_size l.pair-iterator ≡ 2) × StrictlyRises 0 (length l.s) left
    × (l.edges.items ++ edges_between l.s (mark_at l.is_peak) left ≡ edges_between l.s (mark_at l.is_peak) l.kept)

abbrev pub invariant-loop-second : goal.invariant-loop-second
invariant-loop-second l = l.edges.items ++ map edge_of (drop l.second-index l.seconds) ≡ edges_between l.s (mark_at l.is_peak) l.kept ++ map edge_of l.seconds
