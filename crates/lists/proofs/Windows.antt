-- A walk over the neighbours in a list, as `windows(2)` gives them: the first two of what is left, and what is left then. Assumes nothing.
use Prim.Native.Nat.{ℕ, ◌≤◌, ◌<◌}
use native.Mathlib.Omega.{arith}
use mathlib.Core.Path.{◌≡◌, sym, ap, ap₂}
use mathlib.Core.List.{List, [], ◌∷◌}
use lib.ListN.{length, get_or, take, drop}
use Rattle.lists.specs.Sorted.{StrictlyRises}

-- w has the first two of xs, and ys is xs without the first; z stands for what is in no list
pub record FirstTwo {A : Type 0} (z : A) (xs w ys : List A) : Type 0 where
  pub rest : List A
  pub whole : xs ≡ get_or w 0 z ∷ get_or w 1 z ∷ rest
  pub next : ys ≡ get_or w 1 z ∷ rest

-- as an iterator over windows of a size gives them
pub first_two : {A : Type 0} (z : A) {size : ℕ} (xs : List A) {w ys : List A} → size ≡ 2 → size ≤ length xs → w ≡ take size xs → ys ≡ drop 1 xs → FirstTwo z xs w ys
first_two {A} z {size} xs {w} {ys} s h e f = go xs (omega (arith, s, h)) (rw s at e) f
  where
    go : (l : List A) → 2 ≤ length l → w ≡ take 2 l → ys ≡ drop 1 l → FirstTwo z l w ys
    go [] g p q = absurd (omega arith)
    go (a ∷ []) g p q = absurd (omega arith)
    go (a ∷ b ∷ bs) g p q =
        let a0 : a ≡ get_or w 0 z = sym (ap (λ (l : List A). get_or l 0 z) p) in
        let b0 : b ≡ get_or w 1 z = sym (ap (λ (l : List A). get_or l 1 z) p) in
        record { rest = bs; whole = ap₂ (λ (u v : A). u ∷ v ∷ bs) a0 b0; next = rw (q, b0) }

-- of a list that rises the first is the smaller one, and what is left rises
pub next_rises : (n : ℕ) {xs w ys : List ℕ} → FirstTwo 0 xs w ys → StrictlyRises 0 n xs → (get_or w 0 0 < get_or w 1 0) × (get_or w 1 0 < n) × StrictlyRises 0 n ys
next_rises n {xs} {w} {ys} t s = go (get_or w 0 0) (get_or w 1 0) t.rest (rw t.whole at s) t.next
  where
    go : (a b : ℕ) (zs : List ℕ) → StrictlyRises 0 n (a ∷ b ∷ zs) → ys ≡ b ∷ zs → (a < b) × (b < n) × StrictlyRises 0 n ys
    go a b zs r e = (omega (arith, r.2.0), r.2.1, rw e (omega arith, r.2.1, r.2.2))
