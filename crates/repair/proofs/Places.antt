-- The neighbours of a frame are found by its place in the run, which rises strictly (`neighbours_at`). Assumes nothing.
use Prim.Native.Nat.{ℕ, zero, suc, ◌+◌, ◌-◌, ◌≤◌, ◌<◌}
use native.Mathlib.Numerals.{add-one}
use native.Mathlib.Omega.{arith}
use mathlib.Core.Path.{◌≡◌, refl, sym, ap, ap₂, ◌∙◌}
use mathlib.Core.Bool.{Bool, true, false}
use mathlib.Core.List.{List, [], ◌∷◌, ◌++◌}
use lib.Dec.{ltb}
use lib.ListN.{length, get_or, take, drop}
use borrow.Author.Tests.{lt-ltb, le-ltb}
use Rattle.lists.specs.Results.{filter}
use Rattle.lists.specs.By.{Each}
use Rattle.lists.specs.Sorted.{StrictlyRises}
use Rattle.lists.proofs.Entries.{each_map, each_append, each_at}
use Rattle.lists.proofs.Parts.{each_take, each_drop}
use Rattle.lists.proofs.Members.{strict_each}
use Rattle.repair.specs.Repair.{last_few, neighbours}
use Rattle.repair.specs.Places.{around}

-- all or none of a list passes
module _ {A : Type 0} (p : A → Bool) where
  filter_all : (l : List A) → Each (λ x. p x ≡ true) l → filter p l ≡ l
  unfolding filter
  filter_all [] h = refl
  filter_all (x ∷ l) h = rw (h.0, filter_all l h.1)

  filter_none : (l : List A) → Each (λ x. p x ≡ false) l → filter p l ≡ []
  unfolding filter
  filter_none [] h = refl
  filter_none (x ∷ l) h = rw (h.0, filter_none l h.1)

-- ---- the frames before and after the one at place p
module _ (hi : ℕ) where
  before_place : (lo : ℕ) (run : List ℕ) (p : ℕ) → p < length run → StrictlyRises lo hi run → filter (λ j. ltb j (get_or run p 0)) run ≡ take p run
  unfolding filter
  before_place lo [] p h s = absurd (omega arith)
  before_place lo (x ∷ run) zero h s =
      rw (le-ltb x x (omega arith)) (filter_none (λ j. ltb j x) run (each_map (λ j. (x + 1 ≤ j) × (j < hi)) (λ j. ltb j x ≡ false) (λ j k. le-ltb j x (omega (arith, k.0))) run (strict_each (x + 1) hi run s.2)))
  before_place lo (x ∷ run) (suc p) h s =
      let k = each_at (λ j. (x + 1 ≤ j) × (j < hi)) run 0 (strict_each (x + 1) hi run s.2) p (omega arith) in
      rw (lt-ltb x (get_or run p 0) (omega (arith, k.0)), before_place (x + 1) run p (omega arith) s.2)

  after_place : (lo : ℕ) (run : List ℕ) (p : ℕ) → p < length run → StrictlyRises lo hi run → filter (λ j. ltb (get_or run p 0) j) run ≡ drop (suc p) run
  unfolding filter
  after_place lo [] p h s = absurd (omega arith)
  after_place lo (x ∷ run) zero h s =
      rw (le-ltb x x (omega arith)) (filter_all (λ j. ltb x j) run (each_map (λ j. (x + 1 ≤ j) × (j < hi)) (λ j. ltb x j ≡ true) (λ j k. lt-ltb x j (omega (arith, k.0))) run (strict_each (x + 1) hi run s.2)))
  after_place lo (x ∷ run) (suc p) h s =
      let k = each_at (λ j. (x + 1 ≤ j) × (j < hi)) run 0 (strict_each (x + 1) hi run s.2) p (omega arith) in
      rw (le-ltb (get_or run p 0) x (omega (arith, k.0))) (after_place (x + 1) run p (omega arith) s.2)

  pub neighbours_at : (lo : ℕ) (run : List ℕ) (p : ℕ) → p < length run → StrictlyRises lo hi run → neighbours run (get_or run p 0) ≡ around run p
  unfolding neighbours
  neighbours_at lo run p h s =
      ap₂ (λ (a b : List ℕ). last_few 5 a ++ take 5 b) (before_place lo run p h s) (after_place lo run p h s ∙ ap (λ (k : ℕ). drop k run) (sym (add-one p)))

-- ---- what each entry has, the neighbours of a place have
pub each_around : {A : Type 0} (P : A → Type 0) (l : List A) (p : ℕ) → Each P l → Each P (around l p)
each_around P l p e =
    each_append P (last_few 5 (take p l)) (take 5 (drop (p + 1) l)) (each_drop P (length (take p l) - 5) (take p l) (each_take P p l e)) (each_take P 5 (drop (p + 1) l) (each_drop P (p + 1) l e))
