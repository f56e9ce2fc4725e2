-- `extra::seconds::second_in` meets its contract: by whether the run holds exactly one of the kept frames. Assumes nothing.
use mathlib.Core.Path.{sym, ◌∙◌}
use Rattle.extra.specs.Seconds.{second_in}
use Rattle.extra.proofs.seconds.second_in.Goals as goal

pub returns-in_err-nucleus : goal.returns-in_err-nucleus
unfolding second_in
returns-in_err-nucleus c = rw (sym c.one_held.ensures ∙ c.in_err-nucleus.was) c.from_residual.ensures

pub returns : goal.returns
unfolding second_in
returns c = rw (sym c.one_held.ensures ∙ c.in_ok-nucleus.was) c.second_beside.ensures
