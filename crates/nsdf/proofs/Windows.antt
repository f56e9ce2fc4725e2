-- The part of a take that is a window: cut out by its start and its end. Assumes nothing.
use mathlib.Core.Path.{◌≡◌, sym, ◌∙◌}
use Prim.Native.Nat.{ℕ, zero, suc, ◌+◌, ◌-◌, ◌≤◌, min}
use native.Mathlib.Nat.{suc-min-suc, zero-min, le_of_suc-le-suc, not-suc-le-zero}
use native.Mathlib.Omega.{arith}
use mathlib.Core.List.{List, [], ◌∷◌}
use lib.IntN.{ℤ}
use lib.ListN.{length, take, drop, length-take}
use lib.Seq.{drop-nil}
use Rattle.lists.proofs.Parts.{take_min, drop_take}
use Rattle.nsdf.specs.Nsdf.{window}

drop_min : {A : Type 0} (k n : ℕ) (l : List A) → length l ≤ n → drop (min k n) l ≡ drop k l
drop_min k n [] h = drop-nil (min k n) ∙ sym (drop-nil k)
drop_min zero n (x ∷ l) h = rw zero-min
drop_min (suc k) zero (x ∷ l) h = absurd (not-suc-le-zero h)
drop_min (suc k) (suc n) (x ∷ l) h = rw suc-min-suc (drop_min k n l (le_of_suc-le-suc h))

pub window_part : (xs : List ℤ) (c s e : ℕ) → s ≡ min (c - 256) (length xs) → e ≡ min (c + 256) (length xs) → take (e - s) (drop s xs) ≡ window xs c
unfolding window
window_part xs c s e p q =
    let short : length (take (c + 256) xs) ≤ length xs = simp length-take (omega arith) in
    sym (drop_take s e xs) ∙ rw (q, take_min, p) (drop_min (c - 256) (length xs) (take (c + 256) xs) short)
