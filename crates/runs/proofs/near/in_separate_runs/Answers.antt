-- `runs::near::in_separate_runs` meets its contract, by that of `run_of` at both frames. Assumes nothing.
use mathlib.Core.Path.{sym, ◌∙◌}
use Rattle.runs.specs.Near.{separate}
use Rattle.runs.proofs.near.in_separate_runs.Goals as goal

pub returns-in_default : goal.returns-in_default
unfolding separate
returns-in_default c = rw (sym c.run_of.ensures ∙ c.in_default.is)

pub returns-in_default-run_of : goal.returns-in_default-run_of
unfolding separate
returns-in_default-run_of c = rw (sym c.run_of.ensures ∙ c.in-Some.is, sym c.run_of-2.ensures ∙ c.in_default-run_of.is)

pub returns : goal.returns
unfolding separate
returns c = rw (sym c.run_of.ensures ∙ c.in-Some.is, sym c.run_of-2.ensures ∙ c.in-Some-run_of.is)
