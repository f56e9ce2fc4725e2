-- `smooth::level::all_means` meets its contract. Assumes nothing.
use Prim.Native.Nat.{◌-◌}
use native.Mathlib.Omega.{arith}
use mathlib.Core.Path.{sym, ◌∙◌}
use lib.ListN.{length}
use Rattle.smooth.proofs.Averages.{length_means}
use Rattle.lists.proofs.Replaced.{replaced_all, replaced_parts}
use Rattle.smooth.proofs.level.all_means.Goals as goal

pub returns-then-n-lt5 : goal.returns-then-n-lt5
returns-then-n-lt5 c = c.some_means.ensures ∙ replaced_all _ _ _ (sym (length_means c.args.c.now))

pub returns : goal.returns
returns c =
    replaced_parts _ _ 2 (length c.args.c.now - 2) (length c.args.c.now) (omega arith) (omega arith) (sym (length_means c.args.c.now)) c.requires
    c.some_means-2.ensures c.inner_means.ensures c.some_means-3.ensures
