-- `estimates::estimates` meets its contract: the list is filled frame by frame. Assumes nothing.
use Rattle.nsdf.specs.Period.{period_hz}
use Rattle.recover.proofs.Trying.{Trying}
use Rattle.recover.proofs.estimates.estimates.Given as goal

abbrev pub invariant-loop-i : goal.invariant-loop-i
invariant-loop-i l = Trying (period_hz l.samples) l.track.pitch.now l.track.speech.now l.track.vowel.now l.initial.out l.out l.i
