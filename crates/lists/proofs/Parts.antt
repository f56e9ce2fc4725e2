-- Parts of a list: a part of a part, of a list whose entries are each changed alike, and of what each entry has; an entry by its place. Assumes nothing.
use Prim.Native.Nat.{ℕ, zero, suc, ◌-◌, ◌<◌, min}
use native.Mathlib.Nat.{sub-zero, zero-sub, suc-sub-suc, zero-min, min-zero, suc-min-suc, le_of_suc-le-suc, not-suc-le-zero}
use mathlib.Core.Path.{◌≡◌, refl, sym, ap}
use mathlib.Core.List.{List, [], ◌∷◌, map}
use lib.ListN.{length, get_or, take, drop}
use lib.Seq.{take-nil}
use Rattle.lists.specs.By.{Each}

module _ {A : Type 0} where
  -- within a list the default does not matter
  pub get_d_any : (l : List A) (i : ℕ) (d d' : A) → i < length l → get_or l i d ≡ get_or l i d'
  get_d_any [] i d d' h = absurd (not-suc-le-zero h)
  get_d_any (x ∷ l) zero d d' h = refl
  get_d_any (x ∷ l) (suc i) d d' h = get_d_any l i d d' (le_of_suc-le-suc h)

  -- the first k entries, at most all
  pub take_min : (k : ℕ) (l : List A) → take (min k (length l)) l ≡ take k l
  take_min zero l = rw zero-min
  take_min (suc k) [] = rw min-zero
  take_min (suc k) (x ∷ l) = rw (suc-min-suc, take_min k l)

  pub drop_take : (a b : ℕ) (l : List A) → drop a (take b l) ≡ take (b - a) (drop a l)
  drop_take zero b l = rw sub-zero
  drop_take (suc a) zero l = rw zero-sub
  drop_take (suc a) (suc b) [] = sym (take-nil (suc b - suc a))
  drop_take (suc a) (suc b) (x ∷ l) = rw suc-sub-suc (drop_take a b l)

  pub each_take : (P : A → Type 0) (n : ℕ) (l : List A) → Each P l → Each P (take n l)
  each_take P zero l e = tt
  each_take P (suc n) [] e = tt
  each_take P (suc n) (x ∷ l) e = (e.0, each_take P n l e.1)

  pub each_drop : (P : A → Type 0) (n : ℕ) (l : List A) → Each P l → Each P (drop n l)
  each_drop P zero l e = e
  each_drop P (suc n) [] e = tt
  each_drop P (suc n) (x ∷ l) e = each_drop P n l e.1

module _ {A B : Type 0} (g : A → B) where
  pub take_map : (n : ℕ) (l : List A) → take n (map g l) ≡ map g (take n l)
  take_map zero l = refl
  take_map (suc n) [] = refl
  take_map (suc n) (x ∷ l) = ap (λ (z : List B). g x ∷ z) (take_map n l)

  pub drop_map : (n : ℕ) (l : List A) → drop n (map g l) ≡ map g (drop n l)
  drop_map zero l = refl
  drop_map (suc n) [] = refl
  drop_map (suc n) (x ∷ l) = drop_map n l
