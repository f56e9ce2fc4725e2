-- `boundaries::joints::add_joints` meets its contract. The loop's invariant: the joints of what the iterator has left are left to try. Assumes nothing.
use lib.ListN.{length}
use Rattle.runs.specs.Syllables.{syllable_runs}
use Rattle.boundaries.proofs.Jointly.{Joining}
use Rattle.boundaries.proofs.joints.add_joints.Given as goal

abbrev pub invariant-loop-pair : goal.invariant-loop-pair
invariant-loop-pair l =
    Joining l.t.level.now (syllable_runs l.t.pitch.now) l.dip l.t.bounds.start l.t.bounds.end (length l.t.db.now) l.nuclei
    l.pair-iterator.rest.now l.pair-iterator.size l.initial.kept l.kept
