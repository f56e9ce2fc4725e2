-- `select::least_over` meets its contract. The loop's invariant: b is what the fold over the keys before k gives. Assumes nothing.
use mathlib.Core.Path.{◌≡◌}
use mathlib.Core.Bool.{cond}
use Prim.Native.Nat.{min}
use lib.Dec.{ltb}
use lib.ListN.{take}
use Rattle.std.specs.List.{fold}
use Rattle.select.proofs.least_over.Given as goal

abbrev pub invariant-loop-k : goal.invariant-loop-k
invariant-loop-k l = l.b ≡ fold (λ b k. min b (cond (ltb l.x k) k 4294967295)) 4294967295 (take l.k-index l.keys)
