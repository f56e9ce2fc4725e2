-- `select::least_over` meets its contract. Assumes nothing.
use mathlib.Core.Path.{◌∙◌}
use Rattle.std.proofs.lemmas.List.{take_all}
use Rattle.select.proofs.Walks.{above_fold}
use Rattle.select.proofs.least_over.Goals as goal

pub returns : goal.returns
returns c = rw (take_all c.loop-k.k-index c.args.keys.now c.loop-k-test.false) at c.loop-k.invariant ∙ above_fold c.args.x c.args.keys.now
