-- `extra::seconds::seconds_of` meets its contract: the runs and the kept frames are walked together, by `Walking`. Assumes nothing.
use native.Mathlib.Omega.{arith}
use mathlib.Core.Path.{refl, sym, ◌∙◌}
use Rattle.extra.proofs.Holding.{serves_all, seconds_few, walk_within, walk_some, walk_none, walk_room, walk_end}
use Rattle.extra.proofs.seconds.seconds_of.Goals as goal
use Rattle.extra.proofs.seconds.seconds_of.Goals.{in-Some, in_default}

pub loop-run-init : goal.loop-run-init
loop-run-init g c = rw c.clear.ensures (record { lo = 0; serves = serves_all _ _ c.requires.1; spaced = c.requires.2; whole = refl })

pub skip_to-rest-requires : goal.skip_to-rest-requires
skip_to-rest-requires g c = c.loop-run.invariant.serves.rises

pub second_in-requires : goal.second_in-requires
second_in-requires g c =
    let w = walk_within _ _ _ _ _ c.loop-run-test.true c.loop-run.invariant in
    let l = c.skip_to-rest.ensures in
    (w.0, w.1, c.requires.0, l.serves.rises, l.onward)

pub push-requires : goal.push-requires
push-requires g c =
    let few = seconds_few c.args.son.now c.args.kept.now c.args.runs.now in
    (omega arith, walk_room _ _ _ _ _ c.loop-run-test.true c.loop-run.invariant c.skip_to-rest.ensures _ (sym c.second_in.ensures ∙ c.in-Some.is) _ (omega (arith, few)))

pub loop-run-preserved : goal.loop-run-preserved
loop-run-preserved g c =
    let l = c.skip_to-rest.ensures in
    elim c.match-second_in.branch [
      | in-Some w ↦ rw (w.found-is, w.push.ensures.items) (walk_some _ _ _ _ _ c.loop-run-test.true c.loop-run.invariant l _ (sym c.second_in.ensures ∙ w.in-Some.is))
      | in_default w ↦ rw w.found-is (walk_none _ _ _ _ _ c.loop-run-test.true c.loop-run.invariant l (sym c.second_in.ensures ∙ w.in_default.is))
    ]

pub returns : goal.returns
returns g c = walk_end _ _ _ _ c.loop-run-test.false c.loop-run.invariant
