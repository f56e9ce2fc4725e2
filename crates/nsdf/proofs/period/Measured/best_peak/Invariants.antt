-- `Measured::best_peak` meets its contract. The loop's invariant: `best` with the peaks from k on is the best of all. Assumes nothing.
use mathlib.Core.Path.{◌≡◌}
use Rattle.nsdf.specs.Period.{best_peak}
use Rattle.nsdf.proofs.Peaks.{best_from}
use Rattle.nsdf.proofs.period.Measured.best_peak.Given as goal

abbrev pub invariant-loop-k : goal.invariant-loop-k
invariant-loop-k l = best_from l.self.at.now l.best l.k ≡ best_peak l.self.at.now
