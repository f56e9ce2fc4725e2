-- `boundaries::minima::long_spans` meets its contract. The loop's invariant: the spans of what the iterator has left are left to mark. Assumes nothing.
use Rattle.boundaries.proofs.Spreading.{Spans}
use Rattle.boundaries.proofs.minima.long_spans.Given as goal

abbrev pub invariant-loop-span : goal.invariant-loop-span
invariant-loop-span l = Spans l.kept l.span-iterator.rest.now l.span-iterator.size l.marks
