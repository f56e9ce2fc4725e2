-- `boundaries::minima::long_spans` meets its contract. The loop's invariant: the spans of what the iterator has left are left to mark. Assumes nothing.
use native.Mathlib.Omega.{arith}
use Rattle.boundaries.proofs.Spreading.{spans_start, span_rises, spans_long, spans_short, spans_end}
use Rattle.boundaries.proofs.minima.long_spans.Goals as goal

pub loop-span-init : goal.loop-span-init
loop-span-init c =
    let w = c.windows-span-items.ensures in
    rw c.into_iter-span-iterator.ensures.into_iter_gives (spans_start c.args.kept.now w.rest w.size c.requires)

pub overflow_sub-span : goal.overflow_sub-span
overflow_sub-span c =
    let s = c.in-Some.ensures.steps in
    omega (arith, span_rises c.loop-span.invariant s.0 s.1.0 s.1.1 s.1.2)

pub mark_frames-requires : goal.mark_frames-requires
mark_frames-requires c =
    let s = c.in-Some.ensures.steps in
    let r = span_rises c.loop-span.invariant s.0 s.1.0 s.1.1 s.1.2 in
    (omega arith, omega arith)

pub loop-span-preserved-then-span-gt-LONG_SPAN_FRAMES : goal.loop-span-preserved-then-span-gt-LONG_SPAN_FRAMES
loop-span-preserved-then-span-gt-LONG_SPAN_FRAMES c =
    let s = c.in-Some.ensures.steps in
    spans_long c.loop-span.invariant s.0 s.1.0 s.1.1 s.1.2 c.if-span-gt-LONG_SPAN_FRAMES.true c.mark_frames.ensures

pub loop-span-preserved : goal.loop-span-preserved
loop-span-preserved c =
    let s = c.in-Some.ensures.steps in
    spans_short c.loop-span.invariant s.0 s.1.0 s.1.1 s.1.2 c.if-span-gt-LONG_SPAN_FRAMES.false

pub returns : goal.returns
returns c = spans_end c.loop-span.invariant c.in-None.ensures.steps.1.0
