-- `nuclei::merging::one_nucleus` meets its contract. Assumes nothing.
use mathlib.Core.Path.{sym, ap, ◌∙◌}
use mathlib.Core.Bool.{not}
use borrow.Author.Tests.{lt-ltb, le-ltb}
use Rattle.nuclei.specs.Nuclei.{one_nucleus}
use Rattle.nuclei.proofs.merging.one_nucleus.Goals as goal

pub returns-then-x-prev : goal.returns-then-x-prev
unfolding one_nucleus
returns-then-x-prev c = rw (lt-ltb _ _ c.if-x-prev.true)

pub returns-then-is_shallow : goal.returns-then-is_shallow
unfolding one_nucleus
returns-then-is_shallow c = rw (le-ltb _ _ c.if-x-prev.false, sym c.is_shallow.ensures ∙ c.if-is_shallow.true) (ap not c.in_separate_runs.ensures)

pub returns-else-is_shallow : goal.returns-else-is_shallow
unfolding one_nucleus
returns-else-is_shallow c = c.if-is_shallow.false ∙ rw (le-ltb _ _ c.if-x-prev.false, sym c.is_shallow.ensures ∙ c.if-is_shallow.false)
