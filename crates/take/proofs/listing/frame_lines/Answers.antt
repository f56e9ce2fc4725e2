-- `take::listing::frame_lines` meets its contract. The loop's invariant: the page and the lines that are left make up the whole. Assumes nothing.
use Prim.Native.Nat.{◌+◌}
use native.Mathlib.Omega.{arith}
use lib.ListN.{get_or, drop}
use Rattle.take.specs.Listing.{frame_line, frame_lines}
use Rattle.take.proofs.Writing.{write_next, write_room, write_end}
use Rattle.take.proofs.Lines.{texts_step, texts_over}
use Rattle.take.proofs.listing.frame_lines.Goals as goal

pub frame_line-requires : goal.frame_line-requires
frame_line-requires _ c =
    let l = c.loop-frame in
    let w = c.args.word.now in
    let is = c.args.frames.now in
    let i = l.frame-index in
    (omega arith, write_room l.page (frame_line w (get_or is i 0)) (frame_lines w (drop (i + 1) is)) c.args.page.now (frame_lines w is) _ l.invariant (texts_step (frame_line w) is i (omega arith)) c.requires)

pub loop-frame-preserved : goal.loop-frame-preserved
loop-frame-preserved _ c =
    let l = c.loop-frame in
    let w = c.args.word.now in
    let is = c.args.frames.now in
    let i = l.frame-index in
    write_next l.page (frame_line w (get_or is i 0)) (frame_lines w (drop (i + 1) is)) l.invariant (texts_step (frame_line w) is i (omega arith)) c.frame_line.ensures

pub returns : goal.returns
returns _ c = write_end c.loop-frame.page c.loop-frame.invariant (texts_over (frame_line c.args.word.now) c.args.frames.now c.loop-frame.frame-index (omega arith))
