-- `Window::cross` meets its contract. The loop's invariant: the products added so far, with those of the pairs still to come, are the whole sum. Assumes nothing.
use Rattle.std.proofs.Common.{◌≡◌, rules, ◌*ℤ◌, ◌+ℤ◌, w64, to_z, FitsSigned}
use mir.ValLaws.{to_z-of_z}
use Rattle.std.proofs.lemmas.Slice.Zip.{either_empty_from_Zip}
use Rattle.nsdf.proofs.Summing.{cross_turn, cross_last}
use Rattle.nsdf.proofs.sums.Window.cross.Goals as goal

pub loop-x-preserved : goal.loop-x-preserved
loop-x-preserved c =
    let p = c.product-sum in
    let steps = c.in-Some.ensures.steps in
    let e : p.result ≡ c.in-Some.x.now *ℤ c.in-Some.y.now = search rules in
    let f : FitsSigned w64 p.result = search rules in
    let g : FitsSigned w64 (to_z w64 c.loop-x.sum-bits +ℤ p.result) = search rules in
    rw (to_z-of_z w64 p.result f, to_z-of_z w64 _ g)
    (cross_turn c.in-Some.x.now _ c.in-Some.y.now _ steps.0 steps.1 _ _ c.loop-x.invariant p.result e p.ensures.result_bound)

pub returns : goal.returns
returns c = cross_last _ _ (either_empty_from_Zip c.loop-x.x-iterator c.next.new.self c.next.result c.in-None.is c.next.ensures.steps) _ _ c.loop-x.invariant
