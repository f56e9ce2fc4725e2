-- Merging, whatever makes two frames one: a push onto the kept frames, the walk over the frames that a list holds, and what is left:
-- it rises strictly, no two neighbours in it are one, and what holds of every frame that is merged holds of every one that is kept. Assumes nothing.
use Prim.Native.Nat.{ℕ, ◌+◌, ◌-◌, ◌<◌, ◌≤◌}
use native.Mathlib.Omega.{arith}
use native.Mathlib.Nat.{sub-zero}
use native.Mathlib.Numerals.{unary_clauses}
use mathlib.Core.Path.{◌≡◌, refl, sym, ap, subst, ◌∙◌}
use mathlib.Core.Bool.{Bool, true, false, cond}
use mathlib.Core.List.{List, [], ◌∷◌, ◌++◌, reverse, reverse-cons, append_assoc}
use mathlib.Core.Logic.{◌⊎◌, ⊎_elim}
use lib.ListN.{length, take}
use Rattle.std.proofs.lemmas.List.{length-reverse, reverse-append, reverse-reverse}
use Rattle.std.specs.Prelude.{None, Some, slice_get}
use Rattle.lists.specs.Results.{keep}
use Rattle.lists.specs.By.{Each}
use Rattle.lists.specs.Sorted.{StrictlyRises}
use Rattle.lists.specs.Stack.{Falls}
use Rattle.lists.proofs.Fill.{keep_step, keep_over}
use Rattle.lists.proofs.Entries.{each_append}
use Rattle.lists.proofs.Stacks.{falls_under, falls_few, falls_rise}
use Rattle.nuclei.specs.Merging.{push_by, merge_by, merged, Apart}

-- which stays is one of the two
abbrev pub Picks : (ℕ → ℕ → ℕ) → Type 0
Picks left = (a b : ℕ) → (left a b ≡ a) ⊎ (left a b ≡ b)

-- ---- the last of the kept frames
last_split : (l : List ℕ) (prev : ℕ) → slice_get l (length l - 1) ≡ Some prev → l ≡ take (length l - 1) l ++ (prev ∷ [])
last_split [] prev e = absurd (cc)
last_split (x ∷ []) prev e = cc
last_split (x ∷ y ∷ l) prev e = simp unary_clauses (ap (λ (z : List ℕ). x ∷ z) (simp unary_clauses at (last_split (y ∷ l) prev (simp unary_clauses (simp unary_clauses at e)))))

-- where there is none, none is kept
none_kept : (l : List ℕ) → slice_get l (length l - 1) ≡ None → l ≡ []
none_kept [] e = refl
none_kept (x ∷ l) e = absurd (go x l (simp unary_clauses at e))
  where
    go : (x : ℕ) (l : List ℕ) → slice_get (x ∷ l) (length l) ≡ None → ⊥
    go x [] e = cc
    go x (y ∷ l) e = go y l e

reverse_snoc : (l : List ℕ) (x : ℕ) → reverse (l ++ (x ∷ [])) ≡ x ∷ reverse l
reverse_snoc l x = reverse-append l (x ∷ [])

-- the others are `rest`
module _ (l rest : List ℕ) (prev : ℕ) (g : slice_get l (length l - 1) ≡ Some prev) (q : rest ≡ take (length l - 1) l) where
  pub last_first : reverse l ≡ prev ∷ reverse rest
  last_first = rw q (ap reverse (last_split l prev g) ∙ reverse_snoc (take (length l - 1) l) prev)

  pub rest_fewer : length rest < length l
  rest_fewer = omega (arith, ap length last_first, length-reverse l, length-reverse rest)

  module _ (x : ℕ) (f : Falls x (reverse l)) where
    popped : Falls x (prev ∷ reverse rest)
    popped = rw last_first at f

    pub falls_prev : prev < x
    falls_prev = popped.0

    pub falls_left : (y : ℕ) → (y ≡ prev) ⊎ (y ≡ x) → Falls y (reverse rest)
    falls_left y =
        ⊎_elim
        (λ e. rw e popped.1)
        (λ e. rw e (falls_under prev x (reverse rest) (omega (arith, popped.0)) popped.1))

    pub left_within : (y : ℕ) → (y ≡ prev) ⊎ (y ≡ x) → y ≤ x
    left_within y = ⊎_elim (λ e. omega (arith, e, falls_prev)) (λ e. omega (arith, e))

  -- ---- a push
  module _ (one : ℕ → ℕ → Bool) (left : ℕ → ℕ → ℕ) (x : ℕ) where
    pub merge_pop : (new : List ℕ) {y : ℕ} → one prev x ≡ true → y ≡ left prev x → reverse new ≡ push_by one left (reverse rest) y → reverse new ≡ push_by one left (reverse l) x
    unfolding push_by
    merge_pop new e p c = rw (last_first, push_by, e, ← p) c

    pub merge_push : one prev x ≡ false → reverse (l ++ (x ∷ [])) ≡ push_by one left (reverse l) x
    unfolding push_by
    merge_push e = reverse_snoc l x ∙ rw (last_first, push_by, e)

pub merge_none : (one : ℕ → ℕ → Bool) (left : ℕ → ℕ → ℕ) (l : List ℕ) (x : ℕ) → slice_get l (length l - 1) ≡ None → reverse (l ++ (x ∷ [])) ≡ push_by one left (reverse l) x
unfolding push_by
merge_none one left l x e = rw (none_kept l e)

-- a frame that is put onto earlier ones
pub falls_snoc : (l : List ℕ) (x : ℕ) → Falls x (reverse l) → Falls (x + 1) (reverse (l ++ (x ∷ [])))
falls_snoc l x f = rw (reverse_snoc l x) (omega arith, f)

pub kept_few : (l : List ℕ) (i : ℕ) → Falls i (reverse l) → length l ≤ i
kept_few l i f = omega (arith, falls_few i (reverse l) f, length-reverse l)

-- ---- no two neighbours that are kept are one
module _ (one : ℕ → ℕ → Bool) (left : ℕ → ℕ → ℕ) where
  -- the same of kept frames, of which the last comes first
  abbrev Parted : List ℕ → Type 0
  Parted [] = Unit
  Parted (x ∷ []) = Unit
  Parted (x ∷ prev ∷ kept) = (one prev x ≡ false) × Parted (prev ∷ kept)

  parted_tail : (x : ℕ) (kept : List ℕ) → Parted (x ∷ kept) → Parted kept
  parted_tail x [] p = tt
  parted_tail x (prev ∷ kept) p = p.1

  push_parted : (kept : List ℕ) (x : ℕ) → Parted kept → Parted (push_by one left kept x)
  unfolding push_by
  push_parted [] x p = tt
  push_parted (prev ∷ kept) x p = go (one prev x) refl (push_parted kept (left prev x) (parted_tail prev kept p))
    where
      go : (b : Bool) → one prev x ≡ b → Parted (push_by one left kept (left prev x)) → Parted (cond b (push_by one left kept (left prev x)) (x ∷ prev ∷ kept))
      go true e q = q
      go false e q = (e, p)

  merge_parted : (kept xs : List ℕ) → Parted kept → Parted (merge_by one left kept xs)
  unfolding merge_by
  merge_parted kept [] p = p
  merge_parted kept (x ∷ xs) p = merge_parted (push_by one left kept x) xs (push_parted kept x p)

  apart_snoc : (l : List ℕ) (y x : ℕ) → Apart one (l ++ (y ∷ [])) → one y x ≡ false → Apart one (l ++ (y ∷ x ∷ []))
  apart_snoc [] y x a e = (e, tt)
  apart_snoc (z ∷ []) y x a e = (a.0, (e, tt))
  apart_snoc (z ∷ w ∷ l) y x a e = (a.0, apart_snoc (w ∷ l) y x a.1 e)

  parted_up : (kept : List ℕ) → Parted kept → Apart one (reverse kept)
  parted_up [] p = tt
  parted_up (x ∷ []) p = tt
  parted_up (x ∷ prev ∷ kept) p =
      let e : reverse (prev ∷ kept) ≡ reverse kept ++ (prev ∷ []) = reverse-cons prev kept in
      subst (Apart one) (sym (reverse-cons x (prev ∷ kept) ∙ ap (λ (l : List ℕ). l ++ (x ∷ [])) e ∙ append_assoc (reverse kept) (prev ∷ []) (x ∷ [])))
      (apart_snoc (reverse kept) prev x (subst (Apart one) e (parted_up (prev ∷ kept) p.1)) p.0)

  pub merged_apart : (xs : List ℕ) → Apart one (merged one left xs)
  unfolding merged
  merged_apart xs = parted_up (merge_by one left [] xs) (merge_parted [] xs tt)

-- ---- what is kept
module _ (one : ℕ → ℕ → Bool) (left : ℕ → ℕ → ℕ) (picks : Picks left) where
  push_falls : (kept : List ℕ) (x n : ℕ) → x < n → Falls x kept → Falls n (push_by one left kept x)
  unfolding push_by
  push_falls [] x n h f = (h, tt)
  push_falls (prev ∷ kept) x n h f =
      go (one prev x)
      (⊎_elim
      (λ e. rw e (push_falls kept prev n (omega (arith, f.0)) f.1))
      (λ e. rw e (push_falls kept x n h (falls_under prev x kept (omega (arith, f.0)) f.1)))
      (picks prev x))
    where
      go : (b : Bool) → Falls n (push_by one left kept (left prev x)) → Falls n (cond b (push_by one left kept (left prev x)) (x ∷ prev ∷ kept))
      go true g = g
      go false g = (h, f)

  merge_falls : (kept : List ℕ) (lo hi : ℕ) (xs : List ℕ) → lo ≤ hi → Falls lo kept → StrictlyRises lo hi xs → Falls hi (merge_by one left kept xs)
  unfolding merge_by
  merge_falls kept lo hi [] h f s = falls_under lo hi kept h f
  merge_falls kept lo hi (x ∷ xs) h f s =
      merge_falls (push_by one left kept x) (x + 1) hi xs (omega (arith, s.1)) (push_falls kept x (x + 1) (omega arith) (falls_under lo x kept s.0 f)) s.2

  module _ (P : ℕ → Type 0) where
    push_each : (kept : List ℕ) (x : ℕ) → P x → Each P kept → Each P (push_by one left kept x)
    unfolding push_by
    push_each [] x h e = (h, tt)
    push_each (prev ∷ kept) x h e = go (one prev x) (push_each kept (left prev x) (⊎_elim (λ q. subst P (sym q) e.0) (λ q. subst P (sym q) h) (picks prev x)) e.1)
      where
        go : (b : Bool) → Each P (push_by one left kept (left prev x)) → Each P (cond b (push_by one left kept (left prev x)) (x ∷ prev ∷ kept))
        go true g = g
        go false g = (h, e)

    merge_each : (kept xs : List ℕ) → Each P kept → Each P xs → Each P (merge_by one left kept xs)
    unfolding merge_by
    merge_each kept [] e f = e
    merge_each kept (x ∷ xs) e f = merge_each (push_by one left kept x) xs (push_each kept x f.0 e) f.1

    each_reverse : (xs : List ℕ) → Each P xs → Each P (reverse xs)
    each_reverse [] e = tt
    each_reverse (x ∷ xs) e = subst (Each P) (sym (reverse-cons x xs)) (each_append P (reverse xs) (x ∷ []) (each_reverse xs e.1) (e.0, tt))

    pub merged_each : (xs : List ℕ) → Each P xs → Each P (merged one left xs)
    unfolding merged
    merged_each xs e = each_reverse (merge_by one left [] xs) (merge_each [] xs tt e)

  pub merged_rises : (n : ℕ) (xs : List ℕ) → StrictlyRises 0 n xs → StrictlyRises 0 n (merged one left xs)
  unfolding merged
  merged_rises n xs s = falls_rise n (merge_by one left [] xs) (merge_falls [] 0 n xs (omega arith) tt s)

-- ---- the walk over the frames below n that pass a test
module _ (one : ℕ → ℕ → Bool) (left : ℕ → ℕ → ℕ) (test : ℕ → Bool) (n : ℕ) where
  -- `kept` is what is kept of the frames below i
  abbrev pub Merging : List ℕ → ℕ → Type 0
  Merging kept i = merge_by one left (reverse kept) (keep test i (n - i)) ≡ merge_by one left [] (keep test 0 n)

  pub merging_start : Merging [] 0
  merging_start = rw sub-zero

  module _ (kept : List ℕ) (i : ℕ) (m : Merging kept i) where
    pub merging_not : i < n → test i ≡ false → Merging kept (i + 1)
    merging_not h e = rw (keep_step test i n h, e) at m

    pub merging_one : i < n → test i ≡ true → (kept' : List ℕ) → reverse kept' ≡ push_by one left (reverse kept) i → Merging kept' (i + 1)
    unfolding merge_by
    merging_one h e kept' q = rw q (rw (keep_step test i n h, e) at m)

    pub merging_end : n ≤ i → kept ≡ merged one left (keep test 0 n)
    unfolding merged merge_by
    merging_end h = sym (reverse-reverse kept) ∙ ap reverse (rw (keep_over test i n h) at m)
