-- `take::file::read_marks` meets its contract. The loop's invariant: the marks of the first i records are read. Assumes nothing.
use Prim.Native.Nat.{ℕ, ◌+◌, ◌*◌, ◌<◌}
use native.Mathlib.Omega.{arith}
use mathlib.Core.List.{List}
use lib.ListN.{length, get_or}
use Rattle.take.proofs.Records.{mark_in, taking_start, taking_next}
use Rattle.take.proofs.file.read_marks.Goals as goal

pub loop-i-init : goal.loop-i-init
loop-i-init c = taking_start (λ (r : List ℕ). get_or r 16 0) c.args.file.now c.args.marks.now

pub loop-i-preserved : goal.loop-i-preserved
loop-i-preserved c =
    let l = c.loop-i in
    let a = c.args in
    let h : l.i < length a.marks.now = omega (arith, c.loop-i-test.true, l.auto.marks) in
    rw (mark_in a.file.now (19 + 17 * l.i)) at (taking_next (λ (r : List ℕ). get_or r 16 0) a.file.now a.marks.now l.i h l.invariant)
