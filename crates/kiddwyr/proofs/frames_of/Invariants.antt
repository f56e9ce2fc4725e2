-- After i turns the list holds the frames of the first i records. Assumes nothing.
use Rattle.std.proofs.Common.{◌≡◌}
use Rattle.kiddwyr.proofs.Filling.{frames_to}
use Rattle.kiddwyr.proofs.frames_of.Given as goal

abbrev pub invariant-loop-nucleus : goal.invariant-loop-nucleus
invariant-loop-nucleus l = l.frames.items ≡ frames_to l.nucleus-items l.nucleus-index
