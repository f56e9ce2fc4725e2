-- `take::listing::mark_lines` meets its contract. The loop's invariant: the page and the lines that are left make up the whole. Assumes nothing.
use mathlib.Core.Path.{◌≡◌}
use mathlib.Core.List.{◌++◌}
use Rattle.std.specs.Iterator.Adapters.{zip_first, zip_second}
use Rattle.std.specs.Slice.Iter.{iter_rest}
use Rattle.take.specs.Listing.{mark_lines}
use Rattle.take.proofs.listing.mark_lines.Given as goal

abbrev pub invariant-loop-frame : goal.invariant-loop-frame
invariant-loop-frame _ l =
    let it = l.frame-iterator in
    l.page ++ mark_lines l.word (iter_rest (zip_first it)) (iter_rest (zip_second it)) ≡ l.initial.page ++ mark_lines l.word l.frames l.strengths
