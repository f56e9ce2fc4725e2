-- `smooth::extrema::Part::first_best` meets its contract. Up to frame i every frame is beaten by the furthest value. Assumes nothing.
use Rattle.lists.proofs.Walks.{Seeking}
use Rattle.smooth.specs.Extrema.{unbeaten}
use Rattle.smooth.proofs.extrema.Part.first_best.Given as goal

abbrev pub invariant-loop-i : goal.invariant-loop-i
invariant-loop-i l = Seeking (unbeaten l.kind l.self.s.now l.self.a l.self.b) l.self.a l.self.b l.i
