-- Counting the entries of two lists together, and as the frames that are kept. Assumes nothing.
use Prim.Native.Nat.{ℕ, suc, ◌+◌, ◌≤◌, ◌<◌}
use native.Mathlib.Nat.{add-zero}
use native.Mathlib.Omega.{arith}
use mathlib.Core.Path.{◌≡◌, refl, sym, ap₂, ◌∙◌}
use mathlib.Core.Bool.{Bool, true, false}
use mathlib.Core.List.{List, [], ◌∷◌, ◌++◌}
use lib.ListN.{length, get_or}
use Rattle.lists.specs.Results.{more_if, cons_if, keep}
use Rattle.lists.specs.By.{count_if}

module _ {A : Type 0} (p : A → Bool) where
  pub count_append : (l r : List A) → count_if p (l ++ r) ≡ count_if p l + count_if p r
  count_append [] r = omega arith
  count_append (x ∷ l) r = rw (count_append l r) (go (p x) (count_if p l) (count_if p r))
    where
      go : (b : Bool) (m n : ℕ) → more_if b (m + n) ≡ more_if b m + n
      go true m n = omega arith
      go false m n = omega arith

  pub count_few : (l : List A) → count_if p l ≤ length l
  count_few [] = omega arith
  count_few (x ∷ l) = go (p x) (count_few l)
    where
      go : (b : Bool) → count_if p l ≤ length l → more_if b (count_if p l) ≤ length (x ∷ l)
      go true h = omega arith
      go false h = omega arith

-- as many entries pass as frames are kept, where the test of a frame is that of its entry
pub count_kept : {A : Type 0} (p : A → Bool) (t : ℕ → Bool) (d : A) (xs : List A) (i : ℕ) → ((k : ℕ) → k < length xs → t (i + k) ≡ p (get_or xs k d)) → count_if p xs ≡ length (keep t i (length xs))
unfolding keep
count_kept p t d [] i h = refl
count_kept p t d (x ∷ xs) i h =
    ap₂ more_if (sym (rw add-zero at (h 0 (omega arith)))) (count_kept p t d xs (suc i) (λ k l. let e : i + suc k ≡ suc i + k = omega arith in rw e at (h (suc k) (omega arith))))
    ∙ more_kept (t i) (keep t (suc i) (length xs))
  where
    more_kept : (b : Bool) (l : List ℕ) → more_if b (length l) ≡ length (cons_if b i l)
    more_kept true l = omega arith
    more_kept false l = refl
