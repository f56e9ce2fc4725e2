-- `nuclei::tops::top_of` meets its contract. Assumes nothing.
use native.Mathlib.Omega.{arith}
use Rattle.nuclei.proofs.Steps.{no_part, top_chosen, top_within}
use Rattle.nuclei.proofs.tops.top_of.Goals as goal

pub returns-then-hi-lo : goal.returns-then-hi-lo
returns-then-hi-lo c = no_part _ _ _ _ c.max-lo.ensures c.min-hi.ensures c.if-hi-lo.true

pub overflow_cast-top : goal.overflow_cast-top
overflow_cast-top c = omega (arith, top_within _ c.args.r.bounds c.args.dip _ c.max-lo.ensures c.min-hi.ensures c.if-hi-lo.false c.extremum_middle-top.ensures c.args.r.inside)

pub stands_alone-requires : goal.stands_alone-requires
stands_alone-requires c = top_within _ c.args.r.bounds c.args.dip _ c.max-lo.ensures c.min-hi.ensures c.if-hi-lo.false c.extremum_middle-top.ensures c.args.r.inside

pub returns : goal.returns
returns c = top_chosen _ _ _ _ c.max-lo.ensures c.min-hi.ensures c.if-hi-lo.false c.extremum_middle-top.ensures c.stands_alone.ensures c.then_some.ensures
