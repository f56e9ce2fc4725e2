-- `smooth::level::smoothed_db` meets its contract. Assumes nothing.
use mathlib.Core.Path.{ap, ◌∙◌}
use mathlib.Core.List.{List}
use lib.Ieee.{Float}
use Rattle.lists.specs.Results.{overlay}
use Rattle.smooth.proofs.Averages.{cleaned}
use Rattle.smooth.specs.Level.{means, levels}
use Rattle.smooth.proofs.level.smoothed_db.Goals as goal

pub returns : goal.returns
unfolding levels
returns c = c.all_means.ensures ∙ ap (λ (l : List Float). overlay (means l) c.args.out.now) (cleaned c.args.db.now _ _ c.clean_all.ensures)
