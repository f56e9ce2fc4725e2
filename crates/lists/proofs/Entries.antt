-- What each, some or every two entries of a list have, carried over to lists that are made of it. Assumes nothing.
use Prim.Native.Nat.{ℕ, zero, suc, ◌<◌}
use native.Mathlib.Omega.{arith}
use mathlib.Core.Path.{◌≡◌, refl, ap₂}
use mathlib.Core.Bool.{Bool, true, false}
use mathlib.Core.List.{List, [], ◌∷◌, ◌++◌, map}
use mathlib.Core.Logic.{inl, inr}
use lib.ListN.{length, get_or}
use Rattle.lists.specs.Results.{cons_if, filter}
use Rattle.lists.specs.By.{Each, Some, Pairs}

module _ {A : Type 0} where
  pub each_map : (P Q : A → Type 0) → ((x : A) → P x → Q x) → (l : List A) → Each P l → Each Q l
  each_map P Q f [] h = tt
  each_map P Q f (x ∷ l) h = (f x h.0, each_map P Q f l h.1)

  pub each_all : (P : A → Type 0) → ((x : A) → P x) → (l : List A) → Each P l
  each_all P f [] = tt
  each_all P f (x ∷ l) = (f x, each_all P f l)

  pub each_both : (P Q R : A → Type 0) → ((x : A) → P x → Q x → R x) → (l : List A) → Each P l → Each Q l → Each R l
  each_both P Q R f [] p q = tt
  each_both P Q R f (x ∷ l) p q = (f x p.0 q.0, each_both P Q R f l p.1 q.1)

  pub each_append : (P : A → Type 0) (l r : List A) → Each P l → Each P r → Each P (l ++ r)
  each_append P [] r h g = g
  each_append P (x ∷ l) r h g = (h.0, each_append P l r h.1 g)

  -- by index
  pub each_at : (P : A → Type 0) (l : List A) (d : A) → Each P l → (j : ℕ) → j < length l → P (get_or l j d)
  each_at P [] d h j k = absurd (omega arith)
  each_at P (x ∷ l) d h zero k = h.0
  each_at P (x ∷ l) d h (suc j) k = each_at P l d h.1 j (omega arith)

  pub at_each : (P : A → Type 0) (l : List A) (d : A) → ((j : ℕ) → j < length l → P (get_or l j d)) → Each P l
  at_each P [] d f = tt
  at_each P (x ∷ l) d f = (f 0 (omega arith), at_each P l d (λ j h. f (suc j) (omega arith)))

  -- what a filter keeps passes, and has what each entry had
  pub each_filter : (p : A → Bool) (l : List A) → Each (λ x. p x ≡ true) (filter p l)
  unfolding filter
  each_filter p [] = tt
  each_filter p (x ∷ l) = go (p x) refl (each_filter p l)
    where
      go : (b : Bool) → p x ≡ b → Each (λ x. p x ≡ true) (filter p l) → Each (λ x. p x ≡ true) (cons_if b x (filter p l))
      go true e h = (e, h)
      go false e h = h

  pub each_kept : (P : A → Type 0) (p : A → Bool) (l : List A) → Each P l → Each P (filter p l)
  unfolding filter
  each_kept P p [] h = tt
  each_kept P p (x ∷ l) h = go (p x) (each_kept P p l h.1)
    where
      go : (b : Bool) → Each P (filter p l) → Each P (cons_if b x (filter p l))
      go true r = (h.0, r)
      go false r = r

  pub some_left : (P : A → Type 0) (l r : List A) → Some P l → Some P (l ++ r)
  some_left P [] r x' = elim x' [ ]
  some_left P (x ∷ l) r (inl p) = inl p
  some_left P (x ∷ l) r (inr h) = inr (some_left P l r h)

  pub some_right : (P : A → Type 0) (l r : List A) → Some P r → Some P (l ++ r)
  some_right P [] r h = h
  some_right P (x ∷ l) r h = inr (some_right P l r h)

  pub pairs_map : (R S : A → A → Type 0) → ((x y : A) → R x y → S x y) → (l : List A) → Pairs R l → Pairs S l
  pairs_map R S f [] h = tt
  pairs_map R S f (x ∷ l) h = (each_map (R x) (S x) (f x) l h.0, pairs_map R S f l h.1)

  pub pairs_snoc : (R : A → A → Type 0) (l : List A) (x : A) → Pairs R l → Each (λ k. R k x) l → Pairs R (l ++ (x ∷ []))
  pairs_snoc R [] x h e = (tt, tt)
  pairs_snoc R (y ∷ l) x h e = (each_append (R y) l (x ∷ []) h.0 (e.0, tt), pairs_snoc R l x h.1 e.1)

-- functions that agree at each entry
pub map_same : {A B : Type 0} (f g : A → B) (l : List A) → Each (λ x. f x ≡ g x) l → map f l ≡ map g l
map_same f g [] h = refl
map_same f g (x ∷ l) h = ap₂ ◌∷◌ h.0 (map_same f g l h.1)

pub each_of_map : {A B : Type 0} (P : B → Type 0) (f : A → B) (l : List A) → Each (λ x. P (f x)) l → Each P (map f l)
each_of_map P f [] h = tt
each_of_map P f (x ∷ l) h = (h.0, each_of_map P f l h.1)
