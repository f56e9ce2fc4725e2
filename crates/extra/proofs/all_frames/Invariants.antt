-- `extra::all_frames` meets its contract: what there is, with what is left of the one list and then of the other, is the whole. Assumes nothing.
use mathlib.Core.Path.{◌≡◌}
use mathlib.Core.List.{◌++◌, map}
use lib.ListN.{drop}
use Rattle.lists.specs.Results.{filter}
use Rattle.extra.specs.Merging.{mark_at}
use Rattle.extra.specs.Seconds.{frame_of}
use Rattle.extra.proofs.all_frames.Given as goal

abbrev pub invariant-loop-x : goal.invariant-loop-x
invariant-loop-x l = l.frames.items ++ filter (mark_at l.is_peak) (drop l.x-index l.kept) ≡ filter (mark_at l.is_peak) l.kept

abbrev pub invariant-loop-second : goal.invariant-loop-second
invariant-loop-second l = l.frames.items ++ map frame_of (drop l.second-index l.seconds) ≡ filter (mark_at l.is_peak) l.kept ++ map frame_of l.seconds
