-- `take::listing::frame_lines` meets its contract. The loop's invariant: the page and the lines that are left make up the whole. Assumes nothing.
use mathlib.Core.Path.{◌≡◌}
use mathlib.Core.List.{◌++◌}
use lib.ListN.{drop}
use Rattle.take.specs.Listing.{frame_lines}
use Rattle.take.proofs.listing.frame_lines.Given as goal

abbrev pub invariant-loop-frame : goal.invariant-loop-frame
invariant-loop-frame _ l = l.page ++ frame_lines l.word (drop l.frame-index l.frames) ≡ l.initial.page ++ frame_lines l.word l.frames
