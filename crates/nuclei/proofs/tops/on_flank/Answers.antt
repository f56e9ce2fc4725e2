-- `nuclei::tops::on_flank` meets its contract: what the library answers of the frames. Assumes nothing.
use Prim.Native.Nat.{ℕ}
use lib.Ieee.{lt, add, binary32}
use Rattle.std.proofs.Common.{rules, tests, ◌∙◌}
use Rattle.lists.proofs.Ranges.{any_in}
use Rattle.lists.specs.Frames.{at}
use Rattle.nuclei.specs.Tops.{on_flank}
use Rattle.nuclei.proofs.tops.on_flank.Goals as goal

pub returns : goal.returns
unfolding on_flank
returns c =
    let t = λ (j : ℕ). lt (add binary32 (at c.args.s.now c.args.at) c.args.dip) (at c.args.s.now j) in
    any_in t (λ x r q k. search (rules, tests)) c.any.result c.any.ensures.ran ∙ rw (c.near_start.ensures, c.near_end.ensures)
