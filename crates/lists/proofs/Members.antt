-- Which numbers stand in a list that is made of others, and lists that rise strictly: such a list is told by the numbers in it (`strict_unique`), so there is
-- one list in order (`in_order_unique`), which `in_order` computes (`in_order_is`). Assumes nothing.
use Prim.Native.Nat.{ℕ, zero, suc, ◌+◌, ◌≤◌, ◌<◌}
use native.Mathlib.Nat.{le_antisymm, zero-add}
use native.Mathlib.Numerals.{add-one}
use native.Mathlib.Omega.{arith}
use mathlib.Core.Path.{◌≡◌, refl, sym, ap, ap₂, ◌∙◌, subst}
use mathlib.Core.Bool.{Bool, true, false, ◌&&◌, ◌||◌, or_assoc, or_comm, or-false, and-false, true≢false, false≢true, cond}
use mathlib.Core.List.{List, [], ◌∷◌, ◌++◌, reverse, reverse-cons}
use mathlib.Core.Logic.{⊎_elim}
use lib.ListN.{length, get_or, drop, drop_of_length-le}
use lib.Dec.{leb, ltb, eqb}
use borrow.Author.Tests.{leb-true, le-leb, ltb-true, lt-ltb, eqb-true, eqb-false, eq-eqb}
use Rattle.lists.specs.Results.{cons_if, more_if, filter, keep}
use Rattle.lists.specs.By.{Each}
use Rattle.lists.specs.Sorted.{count, Rises, StrictlyRises, IsSorted}
use Rattle.lists.specs.Marks.{member, in_order, IsInOrder, Once}
use Rattle.lists.proofs.Tests.{or_cases, or_left, or_right, and_cases, and_both, not_holds, test_iff}
use Rattle.lists.proofs.Fill.{keep_fits}
use Rattle.lists.proofs.Entries.{each_map, each_at}

-- ---- members
pub member_first : (x : ℕ) (xs : List ℕ) → member (x ∷ xs) x ≡ true
unfolding member
member_first x xs = or_left (eqb x x) (member xs x) (eq-eqb x x refl)

pub member_append : (xs ys : List ℕ) (x : ℕ) → member (xs ++ ys) x ≡ (member xs x || member ys x)
unfolding member
member_append [] ys x = refl
member_append (y ∷ xs) ys x = ap (λ (b : Bool). eqb y x || b) (member_append xs ys x) ∙ sym (or_assoc (eqb y x) (member xs x) (member ys x))

pub member_reverse : (xs : List ℕ) (x : ℕ) → member (reverse xs) x ≡ member xs x
unfolding member
member_reverse [] x = refl
member_reverse (y ∷ xs) x =
    ap (λ (l : List ℕ). member l x) (reverse-cons y xs) ∙ member_append (reverse xs) (y ∷ []) x
    ∙ ap (λ (b : Bool). member (reverse xs) x || b) (or-false (eqb y x)) ∙ or_comm (member (reverse xs) x) (eqb y x)
    ∙ ap (λ (b : Bool). eqb y x || b) (member_reverse xs x)

pub member_filter : (p : ℕ → Bool) (xs : List ℕ) (x : ℕ) → member (filter p xs) x ≡ (p x && member xs x)
unfolding member filter
member_filter p [] x = sym (and-false (p x))
member_filter p (y ∷ xs) x = go (p y) (eqb y x) refl refl (member_filter p xs x)
  where
    go : (b d : Bool) → p y ≡ b → eqb y x ≡ d → member (filter p xs) x ≡ (p x && member xs x) → member (cons_if b y (filter p xs)) x ≡ (p x && (d || member xs x))
    go true true q e r = rw (e, ← eqb-true y x e, q)
    go true false q e r = rw (e, r)
    go false true q e r = r ∙ rw (← eqb-true y x e, q)
    go false false q e r = r

-- nothing is left to look through
pub member_over : (xs : List ℕ) (x i : ℕ) → length xs ≤ i → member (drop i xs) x ≡ false
unfolding member
member_over xs x i h = rw (drop_of_length-le xs h)

-- of the k frames from i on, those that pass
pub kept_where : (t : ℕ → Bool) (i k x : ℕ) → member (keep t i k) x ≡ true → (i ≤ x) × (x < i + k) × (t x ≡ true)
unfolding member keep
kept_where t i zero x e = absurd (false≢true e)
kept_where t i (suc k) x e = go (t i) refl e (kept_where t (suc i) k x)
  where
    go : (b : Bool) → t i ≡ b → member (cons_if b i (keep t (suc i) k)) x ≡ true → (member (keep t (suc i) k) x ≡ true → (suc i ≤ x) × (x < suc i + k) × (t x ≡ true)) → (i ≤ x) × (x < i + suc k) × (t x ≡ true)
    go true q e on =
        ⊎_elim
        (λ h. let p : i ≡ x = eqb-true i x h in (omega arith, omega arith, ap t (sym p) ∙ q))
        (λ h. let r = on h in (omega arith, omega arith, r.2))
        (or_cases (eqb i x) (member (keep t (suc i) k) x) e)
    go false q e on = let r = on e in (omega arith, omega arith, r.2)

kept_there : (t : ℕ → Bool) (i k x : ℕ) → i ≤ x → x < i + k → t x ≡ true → member (keep t i k) x ≡ true
unfolding member keep
kept_there t i zero x lo hi h = absurd (omega arith)
kept_there t i (suc k) x lo hi h = go (t i) (eqb i x) refl refl (λ z. kept_there t (suc i) k x z (omega arith) h)
  where
    go : (b d : Bool) → t i ≡ b → eqb i x ≡ d → (suc i ≤ x → member (keep t (suc i) k) x ≡ true) → member (cons_if b i (keep t (suc i) k)) x ≡ true
    go true true q e on = or_left (eqb i x) (member (keep t (suc i) k) x) e
    go true false q e on = or_right (eqb i x) (member (keep t (suc i) k) x) (on (let n : i ≡ x → ⊥ = eqb-false i x e in omega arith))
    go false true q e on = absurd (true≢false (sym h ∙ ap t (sym (eqb-true i x e)) ∙ q))
    go false false q e on = on (let n : i ≡ x → ⊥ = eqb-false i x e in omega arith)

pub member_keep : (t : ℕ → Bool) (i k x : ℕ) → member (keep t i k) x ≡ (leb i x && (ltb x (i + k) && t x))
member_keep t i k x =
    test_iff (member (keep t i k) x) (leb i x && (ltb x (i + k) && t x))
    (λ e. let r = kept_where t i k x e in and_both (leb i x) (ltb x (i + k) && t x) (le-leb i x r.0) (and_both (ltb x (i + k)) (t x) (lt-ltb x (i + k) r.1) r.2))
    (λ e. let r = and_cases (leb i x) (ltb x (i + k) && t x) e in let s = and_cases (ltb x (i + k)) (t x) r.1 in kept_there t i k x (leb-true i x r.0) (ltb-true x (i + k) s.0) s.1)

-- what each entry has, a member has, and the other way round
pub each_member : (P : ℕ → Type 0) (xs : List ℕ) (x : ℕ) → Each P xs → member xs x ≡ true → P x
unfolding member
each_member P [] x h e = absurd (false≢true e)
each_member P (y ∷ xs) x h e = ⊎_elim (λ p. subst P (eqb-true y x p) h.0) (each_member P xs x h.1) (or_cases (eqb y x) (member xs x) e)

pub member_each : (P : ℕ → Type 0) (xs : List ℕ) → ((x : ℕ) → member xs x ≡ true → P x) → Each P xs
unfolding member
member_each P [] f = tt
member_each P (y ∷ xs) f = (f y (member_first y xs), member_each P xs (λ x e. f x (or_right (eqb y x) (member xs x) e)))

pub each_keep : (t : ℕ → Bool) (i k : ℕ) → Each (λ x. (i ≤ x) × (x < i + k) × (t x ≡ true)) (keep t i k)
each_keep t i k = member_each (λ x. (i ≤ x) × (x < i + k) × (t x ≡ true)) (keep t i k) (kept_where t i k)

-- ---- members and counts
count_once : (xs : List ℕ) → Once xs → (x : ℕ) → count x xs ≡ cond (member xs x) 1 0
unfolding member
count_once [] o x = refl
count_once (y ∷ xs) o x = go (eqb y x) refl (count_once xs o.1 x)
  where
    go : (b : Bool) → eqb y x ≡ b → count x xs ≡ cond (member xs x) 1 0 → more_if b (count x xs) ≡ cond (b || member xs x) 1 0
    go true e r = let n : member xs x ≡ false = ap (member xs) (sym (eqb-true y x e)) ∙ o.0 in rw (r, n)
    go false e r = r

-- ---- lists that rise strictly
pub strict_from : (lo lo' hi : ℕ) (xs : List ℕ) → lo ≤ lo' → StrictlyRises lo' hi xs → StrictlyRises lo hi xs
strict_from lo lo' hi [] h s = tt
strict_from lo lo' hi (x ∷ xs) h s = (omega (arith, s.0), s.1, s.2)

pub strict_to : (lo hi hi' : ℕ) (xs : List ℕ) → hi ≤ hi' → StrictlyRises lo hi xs → StrictlyRises lo hi' xs
strict_to lo hi hi' [] h s = tt
strict_to lo hi hi' (x ∷ xs) h s = (s.0, omega (arith, s.1), strict_to (x + 1) hi hi' xs h s.2)

-- between closer bounds, where each entry lies there
pub strict_between : (a n lo hi : ℕ) (xs : List ℕ) → StrictlyRises a n xs → Each (λ x. (lo ≤ x) × (x < hi)) xs → StrictlyRises lo hi xs
strict_between a n lo hi [] s e = tt
strict_between a n lo hi (x ∷ xs) s e = (e.0.0, e.0.1, below (x + 1) xs s.2 e.1)
  where
    below : (c : ℕ) (ys : List ℕ) → StrictlyRises c n ys → Each (λ y. (lo ≤ y) × (y < hi)) ys → StrictlyRises c hi ys
    below c [] t f = tt
    below c (y ∷ ys) t f = (t.0, f.0.1, below (y + 1) ys t.2 f.1)

pub strict_each : (lo hi : ℕ) (xs : List ℕ) → StrictlyRises lo hi xs → Each (λ x. (lo ≤ x) × (x < hi)) xs
strict_each lo hi [] s = tt
strict_each lo hi (x ∷ xs) s = ((s.0, s.1), strict_each lo hi xs (strict_from lo (x + 1) hi xs (omega (arith, s.0)) s.2))

pub strict_below : (lo hi : ℕ) (xs : List ℕ) → StrictlyRises lo hi xs → Each (λ x. x < hi) xs
strict_below lo hi xs s = each_map (λ x. (lo ≤ x) × (x < hi)) (λ x. x < hi) (λ x h. h.1) xs (strict_each lo hi xs s)

pub strict_get : (lo hi : ℕ) (xs : List ℕ) (i : ℕ) → i < length xs → StrictlyRises lo hi xs → get_or xs i 0 < hi
strict_get lo hi xs i h s = each_at (λ x. x < hi) xs 0 (strict_below lo hi xs s) i h

pub strict_rises : (lo hi : ℕ) (xs : List ℕ) → StrictlyRises lo hi xs → Rises xs
strict_rises lo hi [] s = tt
strict_rises lo hi (x ∷ xs) s =
    (each_map (λ y. (x + 1 ≤ y) × (y < hi)) (λ y. x ≤ y) (λ y h. omega (arith, h.0)) xs (strict_each (x + 1) hi xs s.2), strict_rises (x + 1) hi xs s.2)

pub strict_few : (lo hi : ℕ) (xs : List ℕ) → lo ≤ hi → StrictlyRises lo hi xs → lo + length xs ≤ hi
strict_few lo hi [] h s = omega arith
strict_few lo hi (x ∷ xs) h s = omega (arith, strict_few (x + 1) hi xs (omega (arith, s.1)) s.2, s.0)

pub strict_at : (lo hi : ℕ) (xs : List ℕ) → StrictlyRises lo hi xs → (j : ℕ) → j + 1 < length xs → get_or xs j 0 < get_or xs (j + 1) 0
strict_at lo hi [] s j h = absurd (omega arith)
strict_at lo hi (x ∷ []) s j h = absurd (omega arith)
strict_at lo hi (x ∷ y ∷ xs) s zero h = omega (arith, s.2.0)
strict_at lo hi (x ∷ y ∷ xs) s (suc j) h = let r = strict_at (x + 1) hi (y ∷ xs) s.2 j (omega arith) in rw (add-one (suc j)) (rw (add-one j) at r)

above : (x hi : ℕ) (xs : List ℕ) (y : ℕ) → StrictlyRises (x + 1) hi xs → member xs y ≡ true → x < y
above x hi xs y s e = omega (arith, (each_member (λ z. (x + 1 ≤ z) × (z < hi)) xs y (strict_each (x + 1) hi xs s) e).0)

pub strict_once : (lo hi : ℕ) (xs : List ℕ) → StrictlyRises lo hi xs → Once xs
strict_once lo hi [] s = tt
strict_once lo hi (x ∷ xs) s = (not_holds (member xs x) (λ e. absurd (omega (arith, above x hi xs x s.2 e))), strict_once (x + 1) hi xs s.2)

pub keep_rises : (t : ℕ → Bool) (n i k : ℕ) → i + k ≤ n → StrictlyRises i n (keep t i k)
unfolding keep
keep_rises t n i zero h = tt
keep_rises t n i (suc k) h = go (t i) (keep_rises t n (suc i) k (omega arith))
  where
    go : (b : Bool) → StrictlyRises (suc i) n (keep t (suc i) k) → StrictlyRises i n (cons_if b i (keep t (suc i) k))
    go true s = (omega arith, omega arith, strict_from (i + 1) (suc i) n (keep t (suc i) k) (omega arith) s)
    go false s = strict_from i (suc i) n (keep t (suc i) k) (omega arith) s

pub filter_rises : (p : ℕ → Bool) (lo hi : ℕ) (xs : List ℕ) → StrictlyRises lo hi xs → StrictlyRises lo hi (filter p xs)
unfolding filter
filter_rises p lo hi [] s = tt
filter_rises p lo hi (x ∷ xs) s = go (p x) (filter_rises p (x + 1) hi xs s.2)
  where
    go : (b : Bool) → StrictlyRises (x + 1) hi (filter p xs) → StrictlyRises lo hi (cons_if b x (filter p xs))
    go true r = (s.0, s.1, r)
    go false r = strict_from lo (x + 1) hi (filter p xs) (omega (arith, s.0)) r

-- ---- a list that rises strictly is told by its members
least : (lo hi x : ℕ) (xs : List ℕ) (y : ℕ) → StrictlyRises lo hi (x ∷ xs) → member (x ∷ xs) y ≡ true → x ≤ y
unfolding member
least lo hi x xs y s e = ⊎_elim (λ p. omega (arith, eqb-true x y p)) (λ p. omega (arith, above x hi xs y s.2 p)) (or_cases (eqb x y) (member xs y) e)

-- a member past the first is one of the rest
rest : (x : ℕ) (xs : List ℕ) (y : ℕ) → x < y → member (x ∷ xs) y ≡ member xs y
unfolding member
rest x xs y h = ap (λ (b : Bool). b || member xs y) (not_holds (eqb x y) (λ e. absurd (omega (arith, eqb-true x y e))))

pub strict_unique : (lo hi : ℕ) (r s : List ℕ) → StrictlyRises lo hi r → StrictlyRises lo hi s → ((x : ℕ) → member r x ≡ member s x) → r ≡ s
strict_unique lo hi [] [] a b e = refl
strict_unique lo hi [] (y ∷ s) a b e = absurd (each_member (λ z. ⊥) [] y tt (e y ∙ member_first y s))
strict_unique lo hi (x ∷ r) [] a b e = absurd (each_member (λ z. ⊥) [] x tt (sym (e x) ∙ member_first x r))
strict_unique lo hi (x ∷ r) (y ∷ s) a b e =
    let p : x ≡ y = le_antisymm (least lo hi x r y a (e y ∙ member_first y s)) (least lo hi y s x b (sym (e x) ∙ member_first x r)) in
    ap (λ (z : ℕ). z ∷ r) p
    ∙ ap (λ (l : List ℕ). y ∷ l)
    (strict_unique (x + 1) hi r s a.2 (subst (λ (z : ℕ). StrictlyRises (z + 1) hi s) (sym p) b.2)
    (λ z. test_iff (member r z) (member s z)
    (λ q. let h : x < z = above x hi r z a.2 q in sym (rest y s z (omega arith)) ∙ sym (e z) ∙ rest x r z h ∙ q)
    (λ q. let h : y < z = above y hi s z b.2 q in sym (rest x r z (omega arith)) ∙ e z ∙ rest y s z h ∙ q)))

-- ---- the frames of a list in order
pub in_order_is : (cs : List ℕ) (n : ℕ) → IsInOrder cs n (in_order cs n)
unfolding in_order
in_order_is cs n = record {
  rises = keep_rises (member cs) n 0 n (omega arith);
  holds = λ x. member_keep (member cs) 0 n x ∙ ap₂ (λ (a b : Bool). a && (b && member cs x)) (le-leb 0 x (omega arith)) (ap (ltb x) (zero-add n));
}

pub in_order_unique : (cs : List ℕ) (n : ℕ) (l : List ℕ) → IsInOrder cs n l → l ≡ in_order cs n
in_order_unique cs n l i = strict_unique 0 n l (in_order cs n) i.rises (in_order_is cs n).rises (λ x. i.holds x ∙ sym ((in_order_is cs n).holds x))

pub in_order_few : (cs : List ℕ) (n : ℕ) → length (in_order cs n) ≤ n
unfolding in_order
in_order_few cs n = keep_fits (member cs) 0 n

-- where all entries are below n, none is lost
pub in_order_all : (cs : List ℕ) (n : ℕ) → Each (λ x. x < n) cs → (x : ℕ) → member (in_order cs n) x ≡ member cs x
in_order_all cs n h x = (in_order_is cs n).holds x ∙ go (member cs x) refl
  where
    go : (b : Bool) → member cs x ≡ b → (ltb x n && b) ≡ b
    go true e = rw (lt-ltb x n (each_member (λ z. z < n) cs x h e))
    go false e = and-false (ltb x n)

-- and where each stands there once besides, to put them in order is to sort them
pub in_order_sorted : (cs : List ℕ) (n : ℕ) → Each (λ x. x < n) cs → Once cs → IsSorted cs (in_order cs n)
in_order_sorted cs n h o =
    let i = in_order_is cs n in
    record {
      rises = strict_rises 0 n (in_order cs n) i.rises;
      same = λ x. count_once (in_order cs n) (strict_once 0 n (in_order cs n) i.rises) x ∙ ap (λ (b : Bool). cond b 1 0) (in_order_all cs n h x) ∙ sym (count_once cs o x);
    }
