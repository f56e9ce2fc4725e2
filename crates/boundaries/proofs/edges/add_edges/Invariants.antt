-- `boundaries::edges::add_edges` meets its contract. The loop's invariant: the keys so far, with those of the edges from frame i on, are all. Assumes nothing.
use Rattle.lists.specs.Candidates.{key_of}
use Rattle.boundaries.proofs.Turns.{Keying}
use Rattle.boundaries.proofs.edges.add_edges.Given as goal

abbrev pub invariant-loop-i : goal.invariant-loop-i
invariant-loop-i g l = Keying (g.E.Edges.here l.edges) (λ i. key_of (g.E.Edges.edge l.edges i)) l.keys.items l.fn.b.start l.fn.b.end l.i
