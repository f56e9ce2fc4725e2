-- `take::listing::mark_lines` meets its contract. The loop's invariant: the page and the lines that are left make up the whole. Assumes nothing.
use native.Mathlib.Omega.{arith}
use Rattle.std.specs.Iterator.Adapters.{zip_first, zip_second}
use Rattle.std.specs.Slice.Iter.{iter_rest}
use Rattle.std.proofs.lemmas.Slice.Zip.{either_empty_from_Zip}
use Rattle.take.specs.Listing.{mark_line, mark_lines}
use Rattle.take.proofs.Writing.{write_next, write_room, write_end}
use Rattle.take.proofs.Lines.{marks_step, marks_over}
use Rattle.take.proofs.listing.mark_lines.Goals as goal

pub mark_line-requires : goal.mark_line-requires
mark_line-requires _ c =
    let a = c.args in
    let w = a.word.now in
    let p = c.in-Some in
    let next = c.next.new.self in (
      omega arith,
      write_room c.loop-frame.page (mark_line w p.frame.now p.strength.now) (mark_lines w (iter_rest (zip_first next)) (iter_rest (zip_second next))) a.page.now (mark_lines w a.frames.now a.strengths.now) _ c.loop-frame.invariant
          (marks_step w p.frame.now p.strength.now p.ensures.steps.0 p.ensures.steps.1) c.requires,
    )

pub loop-frame-preserved : goal.loop-frame-preserved
loop-frame-preserved _ c =
    let w = c.args.word.now in
    let p = c.in-Some in
    let next = c.next.new.self in
    write_next c.loop-frame.page (mark_line w p.frame.now p.strength.now) (mark_lines w (iter_rest (zip_first next)) (iter_rest (zip_second next))) c.loop-frame.invariant
    (marks_step w p.frame.now p.strength.now p.ensures.steps.0 p.ensures.steps.1) c.mark_line.ensures

pub returns : goal.returns
returns _ c =
    let it = c.loop-frame.frame-iterator in
    write_end c.loop-frame.page c.loop-frame.invariant (marks_over c.args.word.now (iter_rest (zip_first it)) (iter_rest (zip_second it)) (either_empty_from_Zip it c.next.new.self c.next.result c.in-None.is c.next.ensures.steps))
