-- `extra::write_extras` meets its contract: what the frames from i on give is to come. Assumes nothing.
use Rattle.std.proofs.Common.{arith, sym, ◌≡◌, length, drop, [], drop_of_length-le}
use Rattle.lists.specs.Marks.{in_order}
use Rattle.lists.proofs.Fill.{drop_step, fill_start, fill_push, fill_end, listed_fits, relisted}
use Rattle.nuclei.proofs.Promises.{frames_back}
use Rattle.extra.proofs.Whole.{strengths_few, ordered_at, ordered_in}
use Rattle.extra.proofs.write_extras.Goals as goal

pub loop-i-init : goal.loop-i-init
loop-i-init c = fill_start _ _ (omega (arith, strengths_few c.args.s.now c.args.floor c.args.cands.now (length c.args.s.now)))

pub bounds-frames-i : goal.bounds-frames-i
bounds-frames-i c = omega (arith, listed_fits c.in_order-n.ensures)

pub bounds-s-frames : goal.bounds-s-frames
bounds-s-frames c = ordered_in _ _ c.in_order-n.ensures c.loop-i.i c.loop-i-test.true

pub loop-i-preserved : goal.loop-i-preserved
loop-i-preserved c =
    let l = c.in_order-n.ensures in
    let fs = in_order c.args.cands.now (length c.args.s.now) in
    let next = drop_step fs c.loop-i.i 0 (omega (arith, l.count)) in
    rw (ordered_at _ _ l c.loop-i.i c.loop-i-test.true) (fill_push (rw next at c.loop-i.invariant))

pub returns : goal.returns
returns c =
    let l = c.in_order-n.ensures in
    let fs = in_order c.args.cands.now (length c.args.s.now) in
    let over : drop c.loop-i.i fs ≡ [] = drop_of_length-le fs (omega (arith, l.count, c.loop-i-test.false)) in
    let end : c.in_order-n.result ≡ c.loop-i.i = omega (arith, c.loop-i-test.false) in
    (relisted (sym (frames_back c.args.s.now c.args.floor fs)) l, rw end (fill_end (rw over at c.loop-i.invariant)))
