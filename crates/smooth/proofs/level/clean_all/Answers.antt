-- `smooth::level::clean_all` meets its contract. The first i entries are written. Assumes nothing.
use native.Mathlib.Omega.{arith}
use mathlib.Core.Path.{sym, ◌∙◌}
use lib.ListN.{get_or-map, length-map}
use lib.Ieee.{nan}
use Rattle.lists.proofs.Replaced.{replaced_all, write_start, write_more, write_end}
use Rattle.smooth.specs.Level.{clean}
use Rattle.smooth.proofs.level.clean_all.Goals as goal

pub loop-i-init : goal.loop-i-init
loop-i-init c = write_start _ _ _ _ (omega arith) (omega (arith, length-map c.args.db.now clean)) (omega arith)

pub loop-i-preserved : goal.loop-i-preserved
loop-i-preserved c =
    let l = c.loop-i in
    write_more _ _ _ _ l.invariant (clean nan) _ c.loop-i-test.true (c.clean.ensures ∙ sym (get_or-map clean c.args.db.now l.i nan))

pub returns : goal.returns
returns c = write_end _ _ _ _ c.loop-i.invariant c.loop-i-test.false ∙ replaced_all _ _ _ (sym (length-map c.args.db.now clean))
