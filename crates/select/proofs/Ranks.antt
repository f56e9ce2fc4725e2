-- The entry at place k of a sorted list is the least number that more than k entries are at most (`not_above`, `is_above`), and what follows the last of equal
-- entries is the smallest above them (`next_same`, `next_over`). Neither the count nor the smallest entry above a number depends on the order. Assumes nothing.
use mathlib.Core.Path.{◌≡◌, refl, sym, ap, ◌∙◌, subst}
use mathlib.Core.Bool.{Bool, true, false, cond}
use mathlib.Core.List.{List, [], ◌∷◌}
use mathlib.Core.Logic.{◌⊎◌, inl, inr}
use Prim.Native.Nat.{ℕ, zero, suc, ◌+◌, ◌≤◌, ◌<◌, min, max}
use native.Mathlib.Nat.{le_refl, le_of_suc-le-suc, not-suc-le-zero, lt_of_lt_of_le, lt_irrefl}
use native.Mathlib.Omega.{arith}
use lib.Dec.{leb, ltb}
use lib.ListN.{length, get_or}
use borrow.Author.Tests.{le-leb, lt-leb, lt-ltb, le-ltb}
use Rattle.floats.proofs.Less.{le_or_lt}
use Rattle.lists.specs.Results.{cons_if, filter}
use Rattle.lists.specs.By.{Each}
use Rattle.lists.specs.Sorted.{Low, Rises, insert, sorted}
use Rattle.lists.proofs.Entries.{each_map, each_at, each_kept}
use Rattle.lists.proofs.Ordered.{each_sort, count_sort, length_sort}
use Rattle.lists.proofs.Sorting.{rises_sorted}
use Rattle.select.specs.Order.{at_most, least_of, greatest_of, least_above}

-- m is at least each entry
abbrev pub High : ℕ → List ℕ → Type 0
High m = Each (λ y. y ≤ m)

-- ---- bounds
pub least_low : (l : List ℕ) → Low (least_of l) l
least_low [] = tt
least_low (y ∷ l) = (omega arith, each_map (λ z. least_of l ≤ z) (λ z. min y (least_of l) ≤ z) (λ z h. omega arith) l (least_low l))

pub greatest_high : (l : List ℕ) → High (greatest_of l) l
greatest_high [] = tt
greatest_high (y ∷ l) = (omega arith, each_map (λ z. z ≤ greatest_of l) (λ z. z ≤ max y (greatest_of l)) (λ z h. omega arith) l (greatest_high l))

pub least_small : (l : List ℕ) → least_of l ≤ 4294967295
least_small [] = le_refl 4294967295
least_small (y ∷ l) = omega (arith, least_small l)

low_least : (y : ℕ) (l : List ℕ) → y ≤ 4294967295 → Low y l → y ≤ least_of l
low_least y [] h k = h
low_least y (z ∷ l) h k = omega (arith, k.0, low_least y l h k.1)

-- ---- counts in a list that rises
count_up : (x y : ℕ) (l : List ℕ) → y ≤ x → at_most x (y ∷ l) ≡ suc (at_most x l)
count_up x y l h = rw (le-leb y x h) (omega arith)

count_none : (x y : ℕ) (l : List ℕ) → x < y → Low y l → at_most x l ≡ 0
count_none x y [] h k = refl
count_none x y (z ∷ l) h k = rw (lt-leb z x (lt_of_lt_of_le h k.0)) (count_none x y l h k.1)

count_down : (x y : ℕ) (l : List ℕ) → x < y → Low y l → at_most x (y ∷ l) ≡ 0
count_down x y l h k = count_none x y (y ∷ l) h (le_refl y, k)

within : (x : ℕ) (l : List ℕ) (k : ℕ) → Rises l → k < length l → k < at_most x l → get_or l k 0 ≤ x
within x [] k r h q = absurd (not-suc-le-zero h)
within x (y ∷ l) k r h q = go (le_or_lt y x) (λ j. within x l j r.1) k h q
  where
    go : (y ≤ x) ⊎ (x < y) → ((j : ℕ) → j < length l → j < at_most x l → get_or l j 0 ≤ x) → (j : ℕ) → j < suc (length l) → j < at_most x (y ∷ l) → get_or (y ∷ l) j 0 ≤ x
    go (inl p) later zero g s = p
    go (inl p) later (suc j) g s = later j (le_of_suc-le-suc g) (le_of_suc-le-suc (subst (λ (n : ℕ). suc j < n) (count_up x y l p) s))
    go (inr p) later j g s = absurd (omega (arith, count_down x y l p r.0))

beyond : (x : ℕ) (l : List ℕ) (k : ℕ) → Rises l → k < length l → at_most x l ≤ k → x < get_or l k 0
beyond x [] k r h q = absurd (not-suc-le-zero h)
beyond x (y ∷ l) k r h q = go (le_or_lt y x) (λ j. beyond x l j r.1) k h q
  where
    go : (y ≤ x) ⊎ (x < y) → ((j : ℕ) → j < length l → at_most x l ≤ j → x < get_or l j 0) → (j : ℕ) → j < suc (length l) → at_most x (y ∷ l) ≤ j → x < get_or (y ∷ l) j 0
    go (inl p) later zero g s = absurd (omega (arith, count_up x y l p))
    go (inl p) later (suc j) g s = later j (le_of_suc-le-suc g) (le_of_suc-le-suc (subst (λ (n : ℕ). n ≤ suc j) (count_up x y l p) s))
    go (inr p) later j g s = lt_of_lt_of_le p (each_at (λ z. y ≤ z) (y ∷ l) 0 (le_refl y, r.0) j g)

reached : (l : List ℕ) (k : ℕ) → Rises l → k < length l → k < at_most (get_or l k 0) l
reached l k r h = go (le_or_lt (at_most (get_or l k 0) l) k)
  where
    go : (at_most (get_or l k 0) l ≤ k) ⊎ (k < at_most (get_or l k 0) l) → k < at_most (get_or l k 0) l
    go (inl p) = absurd (lt_irrefl (get_or l k 0) (beyond (get_or l k 0) l k r h p))
    go (inr p) = p

-- ---- the smallest entry above x
above_yes : (x y : ℕ) (l : List ℕ) → x < y → least_above x (y ∷ l) ≡ min y (least_above x l)
unfolding filter
above_yes x y l h = rw (lt-ltb x y h)

above_no : (x y : ℕ) (l : List ℕ) → y ≤ x → least_above x (y ∷ l) ≡ least_above x l
unfolding filter
above_no x y l h = rw (le-ltb x y h)

above_insert : (x y : ℕ) (l : List ℕ) → least_above x (insert y l) ≡ least_above x (y ∷ l)
unfolding filter
above_insert x y [] = refl
above_insert x y (z ∷ l) = go (leb y z) (above_insert x y l)
  where
    swap : (a b : Bool) (m : List ℕ) → least_of (cons_if a z (cons_if b y m)) ≡ least_of (cons_if b y (cons_if a z m))
    swap true true m = omega arith
    swap true false m = refl
    swap false true m = refl
    swap false false m = refl

    first : (a : Bool) (m n : List ℕ) → least_of m ≡ least_of n → least_of (cons_if a z m) ≡ least_of (cons_if a z n)
    first true m n e = ap (min z) e
    first false m n e = e

    go : (b : Bool) → least_above x (insert y l) ≡ least_above x (y ∷ l) → least_above x (cond b (y ∷ z ∷ l) (z ∷ insert y l)) ≡ least_above x (y ∷ z ∷ l)
    go true e = refl
    go false e = first (ltb x z) (filter (ltb x) (insert y l)) (filter (ltb x) (y ∷ l)) e ∙ swap (ltb x z) (ltb x y) (filter (ltb x) l)

above_sorted : (x : ℕ) (l : List ℕ) → least_above x (sorted l) ≡ least_above x l
above_sorted x [] = refl
above_sorted x (y ∷ l) = above_insert x y (sorted l) ∙ go (le_or_lt y x) (above_sorted x l)
  where
    go : (y ≤ x) ⊎ (x < y) → least_above x (sorted l) ≡ least_above x l → least_above x (y ∷ sorted l) ≡ least_above x (y ∷ l)
    go (inl p) e = above_no x y (sorted l) p ∙ e ∙ sym (above_no x y l p)
    go (inr p) e = above_yes x y (sorted l) p ∙ ap (min y) e ∙ sym (above_yes x y l p)

above_at : (x : ℕ) (l : List ℕ) → Rises l → High 4294967295 l → at_most x l < length l → least_above x l ≡ get_or l (at_most x l) 0
above_at x [] r m h = absurd (not-suc-le-zero h)
above_at x (y ∷ l) r m h = go (le_or_lt y x) (above_at x l r.1 m.1)
  where
    go : (y ≤ x) ⊎ (x < y) → (at_most x l < length l → least_above x l ≡ get_or l (at_most x l) 0) → least_above x (y ∷ l) ≡ get_or (y ∷ l) (at_most x (y ∷ l)) 0
    go (inl p) later =
        let e = count_up x y l p in
        above_no x y l p
        ∙ later (le_of_suc-le-suc (subst (λ (n : ℕ). n < suc (length l)) e h))
        ∙ ap (λ (n : ℕ). get_or (y ∷ l) n 0) (sym e)
    go (inr p) later =
        above_yes x y l p
        ∙ least (least_above x l) (low_least y (filter (ltb x) l) m.0 (each_kept (λ z. y ≤ z) (ltb x) l r.0))
        ∙ ap (λ (n : ℕ). get_or (y ∷ l) n 0) (sym (count_down x y l p r.0))
      where
        least : (b : ℕ) → y ≤ b → min y b ≡ y
        least b q = omega arith

-- ---- the entry at place k
at_most_sorted : (x : ℕ) (l : List ℕ) → at_most x (sorted l) ≡ at_most x l
at_most_sorted x = count_sort leb (λ y. leb y x)

module _ (l : List ℕ) (k : ℕ) (h : k < length l) where
  placed : k < length (sorted l)
  placed = subst (λ (n : ℕ). k < n) (sym (length_sort leb l)) h

  pub bounds : (least_of l ≤ get_or (sorted l) k 0) × (get_or (sorted l) k 0 ≤ greatest_of l)
  bounds =
      (each_at (λ z. least_of l ≤ z) (sorted l) 0 (each_sort leb (λ z. least_of l ≤ z) l (least_low l)) k placed, each_at (λ z. z ≤ greatest_of l) (sorted l) 0 (each_sort leb (λ z. z ≤ greatest_of l) l (greatest_high l)) k placed)

  pub not_above : (x : ℕ) → k < at_most x l → get_or (sorted l) k 0 ≤ x
  not_above x p = within x (sorted l) k (rises_sorted l) placed (subst (λ (n : ℕ). k < n) (sym (at_most_sorted x l)) p)

  pub is_above : (x : ℕ) → at_most x l ≤ k → x < get_or (sorted l) k 0
  is_above x p = beyond x (sorted l) k (rises_sorted l) placed (subst (λ (n : ℕ). n ≤ k) (sym (at_most_sorted x l)) p)

  pub counted : k < at_most (get_or (sorted l) k 0) l
  counted = subst (λ (n : ℕ). k < n) (at_most_sorted (get_or (sorted l) k 0) l) (reached (sorted l) k (rises_sorted l) placed)

-- ---- the entry at the next place
module _ (l : List ℕ) (k x : ℕ) (h : k + 1 < length l) (e : x ≡ get_or (sorted l) k 0) where
  pub next_same : k + 1 < at_most x l → x ≡ get_or (sorted l) (k + 1) 0
  next_same p =
      let v = get_or (sorted l) (k + 1) 0 in
      let a : v ≤ x = not_above l (k + 1) h x p in
      let q : k + 1 < at_most v l = counted l (k + 1) h in
      let b : get_or (sorted l) k 0 ≤ v = not_above l k (omega arith) v (omega arith) in
      omega arith

  pub next_over : High 4294967295 l → at_most x l ≤ k + 1 → least_above x l ≡ get_or (sorted l) (k + 1) 0
  next_over m p =
      let q : k < at_most x l = subst (λ (z : ℕ). k < at_most z l) (sym e) (counted l k (omega arith)) in
      let n : at_most x (sorted l) ≡ k + 1 = at_most_sorted x l ∙ omega arith in
      let s : length (sorted l) ≡ length l = length_sort leb l in
      sym (above_sorted x l)
      ∙ above_at x (sorted l) (rises_sorted l) (each_sort leb (λ z. z ≤ 4294967295) l m) (omega arith)
      ∙ ap (λ (z : ℕ). get_or (sorted l) z 0) n
