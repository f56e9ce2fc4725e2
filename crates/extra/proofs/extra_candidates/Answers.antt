-- `extra::extra_candidates` meets its contract: by the sonority's length, and by whether the take has a floor. Assumes nothing.
use mathlib.Core.Path.{sym, ◌∙◌}
use Rattle.nuclei.proofs.Whole.{level_take}
use Rattle.extra.proofs.Whole.{extras_unlike, extras_floorless, extras_floored}
use Rattle.extra.proofs.extra_candidates.Goals as goal

pub returns-then-sonority-db : goal.returns-then-sonority-db
returns-then-sonority-db c = extras_unlike _ _ _ _ _ _ _ c.if-sonority-db.true _ _ _

pub returns-in_default : goal.returns-in_default
returns-in_default c = extras_floorless _ _ _ _ _ _ _ c.if-sonority-db.false (sym c.floor_db.ensures ∙ c.in_default.is) _ _ _

pub returns : goal.returns
returns c =
    let l = level_take c.args.db.now _ c.smoothed_db.ensures in
    extras_floored _ _ _ _ _ _ _ c.if-sonority-db.false
    (sym c.floor_db.ensures ∙ c.in-Some.is)
    (rw (l, c.bounds_over.ensures) at c.extras_over.ensures)
