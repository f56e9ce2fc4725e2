-- `mark_pitches` meets its contract: the recovery is lent the marks of the track's frames, and what it leaves the repair takes. Assumes nothing.
use borrow.Author.Rules.{rules}
use native.Mathlib.Omega.{arith}
use mathlib.Core.Path.{sym, subst}
use lib.Seq.{length-take-le}
use Rattle.repair.specs.Repair.{Pitches}
use Rattle.chain.proofs.Marking.{marks_lent, joined_pitches}
use Rattle.chain.proofs.mark_pitches.Goals as goal

pub slice_bounds-recover_pitch-end : goal.slice_bounds-recover_pitch-end
slice_bounds-recover_pitch-end c = sym (length-take-le _ _ (omega arith))

pub repair_octaves-requires : goal.repair_octaves-requires
repair_octaves-requires c = (search rules, subst (Pitches 40 2000) (sym c.recover_pitch.ensures) (joined_pitches _ _ _ _ c.requires.2))

pub returns : goal.returns
returns c =
    let q = marks_lent c.args.db.now c.args.p _ c.speech_frames.ensures in
    rw (c.recover_pitch.ensures, q) at c.repair_octaves.ensures
