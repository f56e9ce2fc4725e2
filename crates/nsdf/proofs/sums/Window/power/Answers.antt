-- `Window::power` meets its contract. The loop's invariant: the squares added so far, with those of the pairs still to come, are the whole sum. Assumes nothing.
use Rattle.std.proofs.Common.{◌≡◌, rules}
use Rattle.nsdf.specs.Nsdf.{square}
use Rattle.std.proofs.lemmas.Slice.Zip.{either_empty_from_Zip}
use Rattle.nsdf.proofs.Summing.{power_turn, power_last}
use Rattle.nsdf.proofs.sums.Window.power.Goals as goal

pub loop-x-preserved : goal.loop-x-preserved
loop-x-preserved c =
    let s = c.squared in
    let t = c.squared-in-loop-x in
    let e : s.result ≡ square c.in-Some.x.now = search rules in
    let f : t.result ≡ square c.in-Some.y.now = search rules in
    let steps = c.in-Some.ensures.steps in
    power_turn c.in-Some.x.now _ c.in-Some.y.now _ steps.0 steps.1 _ _ c.loop-x.invariant s.result t.result e s.ensures.upper_bound f t.ensures.upper_bound

pub returns-clause-value : goal.returns-clause-value
returns-clause-value c = power_last _ _ (either_empty_from_Zip c.loop-x.x-iterator c.next.new.self c.next.result c.in-None.is c.next.ensures.steps) _ _ c.loop-x.invariant
