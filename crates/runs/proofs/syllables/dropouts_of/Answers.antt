-- `runs::syllables::dropouts_of` meets its contract: the dropouts come one after the other, by `Gapping`. Assumes nothing.
use Rattle.std.proofs.Common.{arith, not, sym, ap, refl, ◌∙◌}
use Rattle.runs.proofs.Syllabic.{gapping_room, gapping_yes, gapping_no, gapping_end}
use Rattle.runs.proofs.syllables.dropouts_of.Goals as goal

pub loop-pair-init : goal.loop-pair-init
loop-pair-init g c =
    rw (c.into_iter-pair-iterator.ensures.into_iter_gives, c.windows-pair-items.ensures.size, c.windows-pair-items.ensures.rest, c.new-dropouts.ensures)
    (record { two = refl; within = c.requires.0; whole = refl })

pub push-requires : goal.push-requires
push-requires g c =
    let s = c.in-Some.ensures.steps in
    let room = gapping_room _ _ c.loop-pair.invariant s.0 s.1.0 s.1.1 s.1.2 (ap not (sym c.breaks_from.ensures ∙ c.if-not-breaks_from.true)) in
    (omega arith, omega (arith, room))

pub loop-pair-preserved-then-not-breaks_from : goal.loop-pair-preserved-then-not-breaks_from
loop-pair-preserved-then-not-breaks_from g c =
    let s = c.in-Some.ensures.steps in
    rw c.push.ensures.items (gapping_yes _ _ c.loop-pair.invariant s.0 s.1.0 s.1.1 s.1.2 (ap not (sym c.breaks_from.ensures ∙ c.if-not-breaks_from.true)))

pub loop-pair-preserved : goal.loop-pair-preserved
loop-pair-preserved g c =
    let s = c.in-Some.ensures.steps in
    gapping_no _ _ c.loop-pair.invariant s.0 s.1.0 s.1.1 s.1.2 (ap not (sym c.breaks_from.ensures ∙ c.if-not-breaks_from.false))

pub returns : goal.returns
returns g c = gapping_end _ _ c.loop-pair.invariant c.in-None.ensures.steps.1.0
