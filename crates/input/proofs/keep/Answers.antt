-- `input::keep` meets its contract: a copy of bytes, and one after them, is a copy of all. Assumes nothing.
use Prim.Native.Nat.{◌-◌}
use native.Mathlib.Omega.{arith}
use Rattle.std.proofs.lemmas.Grind.{common_steps}
use Rattle.std.proofs.lemmas.List.Edits.{paste_more}
use Rattle.input.proofs.keep.Goals as goal

pub returns-then-n-gt0 : goal.returns-then-n-gt0
returns-then-n-gt0 c =
    let a = c.args in
    let n = c.room_for-n.result in
    let p = paste_more a.file.now a.at a.bytes.now (n - 1) 0 (omega (arith, c.room_for-n.ensures, c.if-n-gt0.true)) (omega (arith, c.room_for-n.ensures, c.if-n-gt0.true)) in
    grind (arith, common_steps, p)
