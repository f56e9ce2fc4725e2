-- `frames_of`: each turn pushes the next frame. Assumes nothing.
use Rattle.std.proofs.Common.{ap, arith, take, ◌∙◌}
use lib.Seq.{take_all}
use Rattle.kiddwyr.specs.Records.{frames_in}
use Rattle.kiddwyr.proofs.Given.{frames_taken}
use Rattle.kiddwyr.proofs.frames_of.Goals as goal

pub returns : goal.returns
returns c =
    let some = take c.min.result c.args.nuclei.now in
    c.loop-nucleus.invariant ∙ (ap frames_in (take_all _ some (omega arith)) ∙ frames_taken c.args.nuclei.now 2049 _ c.min.ensures)
