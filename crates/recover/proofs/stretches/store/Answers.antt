-- `stretches::store` meets its contract: up to frame i the pitches are stored. Assumes nothing.
use native.Mathlib.Omega.{arith}
use mathlib.Core.Path.{sym, ap, ◌∙◌}
use lib.ListN.{length-map, get_or-map}
use Rattle.std.specs.Prelude.{None}
use Rattle.lists.proofs.Parts.{get_d_any}
use Rattle.lists.proofs.Replaced.{write_start, write_more}
use Rattle.recover.specs.Recovered.{stored}
use Rattle.recover.proofs.stretches.store.Goals as goal

pub loop-i-init : goal.loop-i-init
loop-i-init c = write_start _ _ _ _ c.requires.s_le_e (omega (arith, length-map c.args.estimates.now stored)) (omega arith)

pub loop-i-preserved : goal.loop-i-preserved
loop-i-preserved c = write_more _ _ _ _ c.loop-i.invariant (stored None) _ c.loop-i-test.true (c.stored.ensures ∙ ap stored (c.get.ensures ∙ c.index-estimates-i.is ∙ get_d_any c.args.estimates.now c.loop-i.i _ None (omega arith)) ∙ sym (get_or-map stored c.args.estimates.now c.loop-i.i None))
