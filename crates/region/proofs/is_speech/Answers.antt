-- `region::is_speech` meets its contract. Assumes nothing.
use Rattle.std.proofs.Common.{◌≡◌, true, false, refl, ◌∙◌}
use mathlib.Core.Bool.{false≢true}
use lib.Ieee.{Float, nan, inf, fin, binary32, lt, of_bits}
use Rattle.region.specs.Speech.{speech}
use Rattle.region.proofs.is_speech.Goals as goal

above : (t d : Float) → lt t d ≡ true → lt d (of_bits binary32 2139095040) ≡ speech t d
unfolding lt of_bits
above t nan h = refl
above t (inf false) h = refl
above nan (inf true) h = absurd (false≢true h)
above (inf true) (inf true) h = absurd (false≢true h)
above (inf false) (inf true) h = absurd (false≢true h)
above (fin s m e) (inf true) h = absurd (false≢true h)
above t (fin s m e) h = rw h

under : (t d : Float) → lt t d ≡ false → false ≡ speech t d
under t nan h = refl
under t (inf s) h = refl
under t (fin s m e) h = rw h

pub returns-then-threshold-d : goal.returns-then-threshold-d
returns-then-threshold-d c = above c.args.threshold c.args.d c.if-threshold-d.true

pub returns-else-threshold-d : goal.returns-else-threshold-d
returns-else-threshold-d c = c.if-threshold-d.false ∙ under c.args.threshold c.args.d c.if-threshold-d.false
