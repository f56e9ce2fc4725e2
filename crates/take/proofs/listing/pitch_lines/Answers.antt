-- `take::listing::pitch_lines` meets its contract. The loop's invariant: the page and the lines that are left make up the whole. Assumes nothing.
use native.Mathlib.Omega.{arith}
use mathlib.Core.Bool.{cond}
use mathlib.Core.List.{[]}
use mathlib.Core.Path.{refl}
use Rattle.std.proofs.Common.{rules}
use Rattle.std.specs.Iterator.Adapters.{enumerate_source}
use Rattle.std.proofs.lemmas.Slice.Zip.{either_empty_from_Zip}
use Rattle.take.specs.Listing.{mark_line, repitched, pitch_lines, pitch_word}
use Rattle.take.proofs.Writing.{write_room}
use Rattle.take.proofs.Lines.{pitches_from, listing_start, listing_step, listing_next, listing_end}
use Rattle.take.proofs.listing.pitch_lines.Goals as goal

pub loop-i-init : goal.loop-i-init
loop-i-init _ c = listing_start c.args.page.now (search rules) (search rules) (search rules)

pub pitch_line-requires : goal.pitch_line-requires
pitch_line-requires _ c =
    let t = c.args.t in
    let l = c.loop-i in
    let p = c.in-Some in
    let steps = p.ensures.steps in
    let s = listing_step l.invariant p.given.now p.left.now _ _ steps.1 steps.0.0 steps.0.1 in (
      omega arith,
      write_room l.page (cond (repitched p.given.now p.left.now) (mark_line pitch_word p.i p.left.now) []) (pitches_from t.given.now t.left.now _) c.args.page.now (pitch_lines t.given.now t.left.now) _ l.invariant.text s.1 c.requires,
    )

pub loop-i-preserved : goal.loop-i-preserved
loop-i-preserved _ c =
    let p = c.in-Some in
    let steps = p.ensures.steps in
    listing_next c.loop-i.invariant p.given.now p.left.now _ _ steps.1 steps.0.0 steps.0.1 steps.2 c.pitch_line.ensures

pub returns : goal.returns
returns _ c =
    let it = c.loop-i.i-iterator in
    listing_end c.loop-i.invariant (either_empty_from_Zip (enumerate_source it) (enumerate_source c.next.new.self) _ refl c.in-None.ensures.steps.0) c.args.t.given_len.0
