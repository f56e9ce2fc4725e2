-- `nuclei::nuclei` meets its contract: by whether the take has a floor. Assumes nothing.
use native.Mathlib.Omega.{arith}
use Prim.Native.Nat.{◌≤◌}
use mathlib.Core.Path.{sym, ◌∙◌}
use lib.ListN.{length}
use lib.Seq.{length-take-le}
use Rattle.nuclei.specs.Nuclei.{nuclei_over, nuclei_of}
use Rattle.nuclei.proofs.Whole.{kept_few, kept_below, level_take, listed_nothing}
use Rattle.nuclei.proofs.nuclei.Goals as goal

pub returns-in_default : goal.returns-in_default
unfolding nuclei_of
returns-in_default c =
    let e = sym c.floor_db.ensures ∙ c.in_default.is in
    rw e (listed_nothing _, listed_nothing _)

pub write_nuclei-requires : goal.write_nuclei-requires
write_nuclei-requires c =
    let e = length-take-le (length c.args.db.now) c.smoothed_db.new.out (omega arith) in
    let f = c.deref.ensures.0 ∙ c.nucleus_frames.ensures in
    let few : length c.deref.result.now ≤ length c.args.db.now = omega (arith, kept_few _ _ _ _ _ _ f) in
    (omega arith, omega arith, kept_below _ _ _ _ _ _ f)

pub returns : goal.returns
unfolding nuclei_of nuclei_over
returns c =
    let e = sym c.floor_db.ensures ∙ c.in-Some.is in
    let l = level_take c.args.db.now _ c.smoothed_db.ensures in
    rw e (rw (c.deref.ensures.0 ∙ c.nucleus_frames.ensures, l, c.bounds_over.ensures) at c.write_nuclei.ensures)
