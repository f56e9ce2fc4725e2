-- `extra::seconds::second_beside` meets its contract: by whether the run splits. Assumes nothing.
use native.Mathlib.Omega.{arith}
use mathlib.Core.Path.{sym, ◌∙◌}
use Rattle.extra.proofs.Cuts.{split_within}
use Rattle.extra.proofs.seconds.second_beside.Goals as goal

pub other_part-requires : goal.other_part-requires
other_part-requires c =
    let w = split_within c.args.son.now c.args.run c.args.nucleus (sym c.split.ensures ∙ c.in_ok-k.was) in
    (omega arith, omega arith, omega arith)
