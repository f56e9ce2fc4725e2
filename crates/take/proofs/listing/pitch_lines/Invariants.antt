-- `take::listing::pitch_lines` meets its contract. The loop's invariant: the page and the lines that are left make up the whole. Assumes nothing.
use Rattle.std.specs.Iterator.Adapters.{enumerate_count, enumerate_source, zip_first, zip_second}
use Rattle.std.specs.Slice.Iter.{iter_rest}
use Rattle.take.proofs.Lines.{Listing}
use Rattle.take.proofs.listing.pitch_lines.Given as goal

abbrev pub invariant-loop-i : goal.invariant-loop-i
invariant-loop-i _ l =
    let it = enumerate_source l.i-iterator in
    Listing l.t.given.now l.t.left.now l.initial.page (enumerate_count l.i-iterator) (iter_rest (zip_first it)) (iter_rest (zip_second it)) l.page
