-- `take::file::read_track` meets its contract. The loop's invariant: the values of the first i records are read. Assumes nothing.
use Prim.Native.Nat.{ℕ, ◌+◌, ◌*◌, ◌<◌}
use native.Mathlib.Omega.{arith}
use mathlib.Core.Path.{sym, subst, ◌∙◌}
use mathlib.Core.List.{List}
use lib.ListN.{length, set}
use lib.Ieee.{Float}
use Rattle.take.specs.Fields.{float_at}
use Rattle.take.proofs.Records.{float_in, Taking, taking_start, taking_next}
use Rattle.take.proofs.file.read_track.Goals as goal

pub loop-i-init : goal.loop-i-init
loop-i-init c = taking_start (λ (r : List ℕ). float_at r c.args.at) c.args.file.now c.args.track.now

pub loop-i-preserved : goal.loop-i-preserved
loop-i-preserved c =
    let l = c.loop-i in
    let a = c.args in
    let f : List ℕ → Float = (λ (r : List ℕ). float_at r a.at) in
    let h : l.i < length a.track.now = omega (arith, c.loop-i-test.true, l.auto.track) in
    let e = float_in a.file.now (19 + 17 * l.i) a.at c.requires.0 ∙ sym c.float_at.ensures in
    subst (λ (x : Float). Taking f a.file.now a.track.now (set l.track l.i x) (l.i + 1)) e (taking_next f a.file.now a.track.now l.i h l.invariant)
