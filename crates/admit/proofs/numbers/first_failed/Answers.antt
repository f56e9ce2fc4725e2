-- `numbers::first_failed` meets its contract. Assumes nothing.
use Rattle.std.proofs.Common.{◌≡◌, Bool, sym, ap, subst, ◌∙◌}
use Rattle.admit.specs.First.{first_of}
use Rattle.admit.specs.Numbers.{numbers_by, tests_in}
use Rattle.admit.proofs.First.{at_failed, past_passed, none_failed}
use Rattle.admit.proofs.numbers.first_failed.Goals as goal

pub returns-then-not-passed : goal.returns-then-not-passed
returns-then-not-passed g c = λ number.
    let table = c.args.table.now in
    let row = c.loop-passed-item in
    let failed = sym (ap (λ (r : Bool × g.row.T.Denot). r.0) row.is) ∙ c.if-not-passed.true in
    subst (λ (r : Bool × g.row.T.Denot). number r.1 ≡ first_of (numbers_by number table) (tests_in table)) (sym row.is)
    (at_failed number table _ (c.loop-passed.invariant number) row.result c.loop-passed-test.true failed)

pub loop-passed-preserved : goal.loop-passed-preserved
loop-passed-preserved g c = λ number.
    let row = c.loop-passed-item in
    let passed = sym (ap (λ (r : Bool × g.row.T.Denot). r.0) row.is) ∙ c.if-not-passed.false in
    past_passed number _ _ (c.loop-passed.invariant number) row.result c.loop-passed-test.true passed

pub returns : goal.returns
returns g c = λ number. none_failed number _ _ (c.loop-passed.invariant number) c.loop-passed-test.false
