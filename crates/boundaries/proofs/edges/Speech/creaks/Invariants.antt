-- `boundaries::edges::Speech::creaks` meets its contract. The loop's invariant: the dropouts from gap on are left to mark. Assumes nothing.
use lib.ListN.{drop}
use Rattle.region.specs.Speech.{speech_at}
use Rattle.boundaries.proofs.Spreading.{Spreading, creaks_in}
use Rattle.boundaries.proofs.edges.Speech.creaks.Given as goal

abbrev pub invariant-loop-gap : goal.invariant-loop-gap
invariant-loop-gap l = Spreading (creaks_in (speech_at l.self.threshold l.self.db.now) l.gap-items) (creaks_in (speech_at l.self.threshold l.self.db.now) (drop l.gap-index l.gap-items)) l.marks
