-- `fill_nuclei`: each turn writes the next record. Assumes nothing.
use Rattle.std.proofs.Common.{◌≡◌, refl, sym, arith, add-one, length}
use Rattle.kiddwyr.proofs.Filling.{none_over, one_over, paired_all}
use Rattle.kiddwyr.proofs.fill_nuclei.Goals as goal

pub loop-i-init : goal.loop-i-init
loop-i-init c = sym (none_over c.args.out.now c.args.frames.now c.args.strengths.now)

pub loop-i-preserved : goal.loop-i-preserved
loop-i-preserved c =
    let i = c.loop-i.i in
    rw (c.loop-i.invariant, add-one i) (one_over c.args.out.now c.args.frames.now c.args.strengths.now i (omega arith) (omega (arith, c.requires.0)) (omega (arith, c.requires.1)))

pub returns : goal.returns
returns c =
    let e : c.loop-i.i ≡ length c.args.frames.now = omega arith in
    rw (c.loop-i.invariant, e, paired_all c.args.frames.now c.args.strengths.now c.requires.0) refl
