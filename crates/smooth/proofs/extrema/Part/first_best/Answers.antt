-- `smooth::extrema::Part::first_best` meets its contract. Up to frame i every frame is beaten by the furthest value. Assumes nothing.
use native.Mathlib.Omega.{arith}
use mathlib.Core.Path.{◌≡◌, ap, ◌∙◌}
use mathlib.Core.Bool.{not}
use Rattle.smooth.proofs.Best.{unbeaten_test}
use Rattle.lists.proofs.Walks.{seek_on, seek_stop, seek_end}
use Rattle.smooth.specs.Extrema.{first_best}
use Rattle.smooth.proofs.extrema.Part.first_best.Goals as goal

pub returns-then-not-is_beyond : goal.returns-then-not-is_beyond
unfolding first_best
returns-then-not-is_beyond c =
    let l = c.loop-i in
    (seek_stop _ _ _ l.invariant (unbeaten_test _ _ _ _ c.args.self.inside.0 c.args.self.inside.1 _ c.furthest-m.ensures c.is_beyond.ensures ∙ ap not c.if-not-is_beyond.true), (l.invariant.low, l.invariant.high))

pub loop-i-preserved : goal.loop-i-preserved
loop-i-preserved c =
    seek_on _ _ _ c.loop-i.invariant c.loop-i-test.true
    (unbeaten_test _ _ _ _ c.args.self.inside.0 c.args.self.inside.1 _ c.furthest-m.ensures
    c.is_beyond.ensures ∙ ap not c.if-not-is_beyond.false)

pub returns : goal.returns
unfolding first_best
returns c =
    let l = c.loop-i in
    let e : c.args.self.b ≡ l.i = omega arith in
    (e ∙ seek_end _ _ _ l.invariant c.loop-i-test.false, (omega arith, omega arith))
