-- After i turns the first i records are in front, and past them the list is as it was lent.
use Rattle.std.proofs.Common.{◌≡◌}
use Rattle.lists.specs.Results.{overlay}
use Rattle.kiddwyr.proofs.Filling.{paired_to}
use Rattle.kiddwyr.proofs.fill_nuclei.Given as goal

abbrev pub invariant-loop-i : goal.invariant-loop-i
invariant-loop-i l = l.out ≡ overlay (paired_to l.frames l.strengths l.i) l.fn.out
