-- Frames added in turn: what holds then of each that is kept, of some, of every two, and of how many they are. Assumes nothing.
use Prim.Native.Nat.{ℕ, suc, ◌+◌, ◌≤◌, ◌<◌}
use native.Mathlib.Omega.{arith}
use mathlib.Core.Path.{◌≡◌, refl}
use mathlib.Core.Bool.{Bool, true, false, ◌&&◌, ◌||◌, cond, true≢false, false≢true}
use mathlib.Core.List.{List, [], ◌∷◌, ◌++◌}
use mathlib.Core.Logic.{◌⊎◌, inl, inr, ⊎_elim}
use lib.ListN.{length, length-append}
use lib.Dec.{ltb}
use borrow.Author.Tests.{ltb-true, ltb-false}
use Rattle.lists.specs.By.{Each, Some, Pairs}
use Rattle.lists.specs.Marks.{member, Once}
use Rattle.lists.proofs.Tests.{not_holds}
use Rattle.lists.proofs.Members.{each_member}
use Rattle.lists.proofs.Entries.{each_map, each_append, some_left, some_right, pairs_snoc}
use Rattle.boundaries.specs.Keeping.{clear, try_add, add_all}
use Rattle.boundaries.specs.Promises.{Near}

-- more than 2 frames apart
abbrev pub Far : ℕ → ℕ → Type 0
Far a b = (a + 2 < b) ⊎ (b + 2 < a)

-- within 2 frames
abbrev pub Close : ℕ → ℕ → Type 0
Close at k = (k ≤ at + 2) × (at ≤ k + 2)

-- two frames
abbrev pub Other : ℕ → ℕ → Type 0
Other a b = a ≡ b → ⊥

pub far_sym : (a b : ℕ) → Far a b → Far b a
far_sym a b (inl h) = inr h
far_sym a b (inr h) = inl h

pub far_other : (a b : ℕ) → Far a b → Other a b
far_other a b (inl h) e = omega arith
far_other a b (inr h) e = omega arith

pub pairs_once : (l : List ℕ) → Pairs Other l → Once l
pairs_once [] h = tt
pairs_once (x ∷ l) h = (not_holds (member l x) (λ e. each_member (Other x) l x h.0 e refl), pairs_once l h.1)

-- ---- what `clear` says
pub clear_yes : (at : ℕ) (l : List ℕ) → clear at l ≡ true → Each (λ k. Far k at) l
unfolding clear
clear_yes at [] e = tt
clear_yes at (k ∷ l) e = go (ltb (k + 2) at) (ltb (at + 2) k) (clear at l) refl refl (clear_yes at l) e
  where
    go : (b c d : Bool) → ltb (k + 2) at ≡ b → ltb (at + 2) k ≡ c → (d ≡ true → Each (λ k. Far k at) l) → ((b || c) && d) ≡ true → Far k at × Each (λ k. Far k at) l
    go true c true p q r s = (inl (ltb-true _ _ p), r refl)
    go false true true p q r s = (inr (ltb-true _ _ q), r refl)
    go true c false p q r s = absurd (false≢true s)
    go false true false p q r s = absurd (false≢true s)
    go false false d p q r s = absurd (false≢true s)

pub clear_no : (at : ℕ) (l : List ℕ) → clear at l ≡ false → Near at l
unfolding clear
clear_no at [] e = absurd (true≢false e)
clear_no at (k ∷ l) e = go (ltb (k + 2) at) (ltb (at + 2) k) (clear at l) refl refl (clear_no at l) e
  where
    go : (b c d : Bool) → ltb (k + 2) at ≡ b → ltb (at + 2) k ≡ c → (d ≡ false → Near at l) → ((b || c) && d) ≡ false → Close at k ⊎ Near at l
    go true c true p q r s = absurd (true≢false s)
    go false true true p q r s = absurd (true≢false s)
    go true c false p q r s = inr (r refl)
    go false true false p q r s = inr (r refl)
    go false false d p q r s = inl (ltb-false _ _ q, ltb-false _ _ p)

-- ---- one frame
pub tried : (cap at : ℕ) (kept : List ℕ) (P : List ℕ → Type 0)
    → (length kept < cap → clear at kept ≡ true → P (kept ++ (at ∷ [])))
    → ((cap ≤ length kept) ⊎ (clear at kept ≡ false) → P kept) → P (try_add cap kept at)
unfolding try_add
tried cap at kept P put stay = go (ltb (length kept) cap) (clear at kept) refl refl
  where
    go : (b c : Bool) → ltb (length kept) cap ≡ b → clear at kept ≡ c → P (cond (b && c) (kept ++ (at ∷ [])) kept)
    go true true e f = put (ltb-true _ _ e) f
    go true false e f = stay (inr f)
    go false c e f = stay (inl (ltb-false _ _ e))

-- ---- each of a list
module _ (cap : ℕ) where
  pub add_append : (kept xs ys : List ℕ) → add_all cap kept (xs ++ ys) ≡ add_all cap (add_all cap kept xs) ys
  unfolding add_all
  add_append kept [] ys = refl
  add_append kept (x ∷ xs) ys = add_append (try_add cap kept x) xs ys

  pub add_each : (P : ℕ → Type 0) (kept cs : List ℕ) → Each P kept → Each P cs → Each P (add_all cap kept cs)
  unfolding add_all
  add_each P kept [] h g = h
  add_each P kept (c ∷ cs) h g = add_each P (try_add cap kept c) cs (tried cap c kept (Each P) (λ _ _. each_append P kept (c ∷ []) h (g.0, tt)) (λ _. h)) g.1

  pub add_some : (P : ℕ → Type 0) (kept cs : List ℕ) → Some P kept → Some P (add_all cap kept cs)
  unfolding add_all
  add_some P kept [] h = h
  add_some P kept (c ∷ cs) h = add_some P (try_add cap kept c) cs (tried cap c kept (Some P) (λ _ _. some_left P kept (c ∷ []) h) (λ _. h))

  pub add_few : (kept cs : List ℕ) → length kept ≤ cap → length (add_all cap kept cs) ≤ cap
  unfolding add_all
  add_few kept [] h = h
  add_few kept (c ∷ cs) h = add_few (try_add cap kept c) cs (tried cap c kept (λ l. length l ≤ cap) (λ p _. simp length-append (omega arith)) (λ _. h))

  pub add_pairs : (R : ℕ → ℕ → Type 0) → ((a b : ℕ) → Far a b → R a b) → (kept cs : List ℕ) → Pairs R kept → Pairs R (add_all cap kept cs)
  unfolding add_all
  add_pairs R f kept [] h = h
  add_pairs R f kept (c ∷ cs) h =
      add_pairs R f (try_add cap kept c) cs
      (tried cap c kept (Pairs R)
      (λ _ e. pairs_snoc R kept c h (each_map (λ k. Far k c) (λ k. R k c) (λ k g. f k c g) kept (clear_yes c kept e)))
      (λ _. h))

  grows : (kept : List ℕ) (c : ℕ) → length (try_add cap kept c) ≤ suc (length kept)
  grows kept c = tried cap c kept (λ l. length l ≤ suc (length kept)) (λ _ _. simp length-append (omega arith)) (λ _. omega arith)

  -- with room for all of them each has one near it
  pub add_near : (kept cs : List ℕ) → length kept + length cs ≤ cap → Each (λ c. Near c (add_all cap kept cs)) cs
  unfolding add_all
  add_near kept [] h = tt
  add_near kept (c ∷ cs) h = (
    add_some (Close c) (try_add cap kept c) cs
        (tried cap c kept (Near c) (λ _ _. some_right (Close c) kept (c ∷ []) (inl (omega arith, omega arith))) (⊎_elim (λ full. absurd (omega arith)) (clear_no c kept))),
    add_near (try_add cap kept c) cs (omega (arith, grows kept c)),
  )
