-- `region::marks_above` meets its contract. Assumes nothing.
use Rattle.std.proofs.Common.{◌≡◌, Bool, true, false, cond, refl}
use mir.Val.{bool_byte}
use lib.Ieee.{nan}
use Rattle.lists.proofs.Fill.{fill_map, fill_map_over}
use Rattle.region.specs.Speech.{mark}
use Rattle.region.proofs.marks_above.Goals as goal

by_test : (b : Bool) → bool_byte b ≡ cond b 1 0
by_test true = refl
by_test false = refl

pub loop-i-preserved : goal.loop-i-preserved
loop-i-preserved c = rw (by_test c.is_speech.result, c.is_speech.ensures) (fill_map (mark c.args.threshold) c.args.db.now c.loop-i.i nan c.loop-i-test.true c.loop-i.invariant)

pub returns : goal.returns
returns c = (fill_map_over (mark c.args.threshold) c.args.db.now c.loop-i.i c.loop-i-test.false c.loop-i.invariant).entries
