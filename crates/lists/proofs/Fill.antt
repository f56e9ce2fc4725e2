-- A lent list that is filled from the front, one store at a time: `Filling whole rest out₀ out n` says that of the result `whole` the first n entries are in
-- `out`, that `rest` is to come, and that past them `out` is as it was lent. Then what a caller reads off the list that comes back. Assumes nothing.
use Prim.Native.Nat.{ℕ, zero, suc, ◌+◌, ◌-◌, ◌<◌, ◌≤◌}
use native.Mathlib.Nat.{add-zero, zero-add, suc-add}
use native.Mathlib.Omega.{arith}
use native.Mathlib.Numerals.{add-one}
use mathlib.Core.Path.{◌≡◌, refl, sym, ap, ap₂, subst, ◌∙◌}
use mathlib.Core.Bool.{Bool, true, false}
use mathlib.Core.List.{List, [], ◌∷◌, ◌++◌, append_assoc, append-nil, map}
use lib.Dec.{leb}
use borrow.Author.Tests.{leb-true, leb-false}
use lib.ListN.{length, get_or, take, drop, set, length-append, length-drop, drop_of_length-le}
use lib.Seq.{drop-cons, set_at, take-append_seam}
use Rattle.lists.specs.Results.{overlay, Listed, keep, cons_if, filter}

pub record Filling {ℓ} {A : Type ℓ} (whole rest out₀ out : List A) (n : ℕ) : Type ℓ where
  pub done : List A
  pub split : whole ≡ done ++ rest
  pub count : n ≡ length done
  pub laid : out ≡ done ++ drop n out₀
  pub room : length whole ≤ length out₀

module _ {ℓ} {A : Type ℓ} where
  pub fill_start : (whole out₀ : List A) → length whole ≤ length out₀ → Filling whole whole out₀ out₀ 0
  fill_start whole out₀ h = record { done = []; split = refl; count = refl; laid = refl; room = h }

  pub fill_room : {whole rest out₀ out : List A} {n : ℕ} → Filling whole rest out₀ out n → n + length rest ≤ length out₀
  fill_room {whole} {rest} {out₀} {out} {n} f =
      let e : length whole ≡ length f.done + length rest = ap length f.split ∙ length-append f.done rest in
      omega arith

  pub fill_length : {whole rest out₀ out : List A} {n : ℕ} → Filling whole rest out₀ out n → length out ≡ length out₀
  fill_length {whole} {rest} {out₀} {out} {n} f =
      let r : n + length rest ≤ length out₀ = fill_room f in
      ap length f.laid ∙ simp (length-append, length-drop) (omega arith)

  pub fill_fits : {whole rest out₀ out : List A} {n : ℕ} {x : A} → Filling whole (x ∷ rest) out₀ out n → (n < length out) × (length out ≡ length out₀)
  fill_fits f = (omega (arith, fill_room f, fill_length f), fill_length f)

  pub fill_push : {whole rest out₀ out : List A} {n : ℕ} {x : A} → Filling whole (x ∷ rest) out₀ out n → Filling whole rest out₀ (set out n x) (n + 1)
  fill_push {whole} {rest} {out₀} {out} {n} {x} f =
      let h : n < length out₀ = omega (arith, fill_room f) in
      record {
        done = f.done ++ (x ∷ []);
        split = f.split ∙ sym (append_assoc f.done (x ∷ []) rest);
        count = simp length-append (omega arith);
        laid = ap (λ (l : List A). set l n x) (f.laid ∙ ap (λ (l : List A). f.done ++ l) (drop-cons out₀ n x h)) ∙ set_at f.done (get_or out₀ n x) (drop (suc n) out₀) x n (sym f.count) ∙ rw (append_assoc, add-one);
        room = f.room;
      }

  pub fill_end : {whole out₀ out : List A} {n : ℕ} → Filling whole [] out₀ out n → Listed whole out₀ out n
  unfolding overlay
  fill_end {whole} {out₀} {out} {n} f =
      let e : whole ≡ f.done = f.split ∙ append-nil f.done in
      record { count = f.count ∙ ap length (sym e); entries = f.laid ∙ ap₂ (λ (l : List A) (k : ℕ). l ++ drop k out₀) (sym e) (f.count ∙ ap length (sym e)) }

-- ---- the list that comes back
module _ {ℓ} {A : Type ℓ} {res old new : List A} {r : ℕ} (l : Listed res old new r) where
  pub listed_take : take r new ≡ res
  unfolding overlay
  listed_take = rw (l.entries, l.count) (take-append_seam res (drop (length res) old))

  pub listed_fits : r ≤ length new
  unfolding overlay
  listed_fits = rw (l.entries, l.count, length-append) (omega arith)

  pub listed_count : r ≡ length (take r new)
  listed_count = l.count ∙ ap length (sym listed_take)

  -- a result as long as the list is all of it
  pub listed_all : length old ≤ length res → new ≡ res
  unfolding overlay
  listed_all h = l.entries ∙ ap (λ (z : List A). res ++ z) (drop_of_length-le old h) ∙ append-nil res

pub overlay_take : {A : Type 0} (res old : List A) {r : ℕ} → r ≡ length res → take r (overlay res old) ≡ res
overlay_take res old e = listed_take (record { count = e; entries = refl })

pub relisted : {A : Type 0} {res other old new : List A} {r : ℕ} → res ≡ other → Listed res old new r → Listed other old new r
relisted {A} {res} {other} {old} {new} {r} e l = subst (λ (z : List A). Listed z old new r) e l

-- ---- the entries of a list that pass
pub map_cons_if {ℓ κ} : {A : Type ℓ} {B : Type κ} (g : A → B) (b : Bool) (x : A) (xs : List A) → map g (cons_if b x xs) ≡ cons_if b (g x) (map g xs)
map_cons_if g true x xs = refl
map_cons_if g false x xs = refl

cons_if_append : {A : Type 0} (b : Bool) (x : A) (l r : List A) → cons_if b x (l ++ r) ≡ cons_if b x l ++ r
cons_if_append true x l r = refl
cons_if_append false x l r = refl

pub length_cons_if {ℓ} : {A : Type ℓ} (b : Bool) (x : A) (xs : List A) {k : ℕ} → length xs ≤ k → length (cons_if b x xs) ≤ suc k
length_cons_if true x xs h = omega arith
length_cons_if false x xs h = omega arith

pub filter_le {ℓ} : {A : Type ℓ} (p : A → Bool) (xs : List A) → length (filter p xs) ≤ length xs
unfolding filter
filter_le p [] = omega arith
filter_le p (x ∷ xs) = length_cons_if (p x) x (filter p xs) (filter_le p xs)

pub filter_append : {A : Type 0} (p : A → Bool) (xs ys : List A) → filter p (xs ++ ys) ≡ filter p xs ++ filter p ys
unfolding filter
filter_append p [] ys = refl
filter_append p (x ∷ xs) ys = ap (cons_if (p x) x) (filter_append p xs ys) ∙ cons_if_append (p x) x (filter p xs) (filter p ys)

-- the next entry, at the code's i + 1
pub drop_step {ℓ} : {A : Type ℓ} (l : List A) (i : ℕ) (d : A) → i < length l → drop i l ≡ get_or l i d ∷ drop (i + 1) l
drop_step {A} l i d h = drop-cons l i d h ∙ ap (λ (k : ℕ). get_or l i d ∷ drop k l) (sym (add-one i))

-- a list that is copied entry by entry
module _ {ℓ} {A : Type ℓ} (xs : List A) (i : ℕ) {whole out₀ out : List A} {n : ℕ} where
  pub fill_entry : (d : A) → i < length xs → Filling whole (drop i xs) out₀ out n → Filling whole (drop (i + 1) xs) out₀ (set out n (get_or xs i d)) (n + 1)
  fill_entry d h f = fill_push (rw (drop_step xs i d h) at f)

-- and one whose entries are each changed alike
module _ {ℓ κ} {A : Type ℓ} {B : Type κ} (g : A → B) (xs : List A) (i : ℕ) {whole out₀ out : List B} {n : ℕ} where
  pub fill_map : (d : A) → i < length xs → Filling whole (map g (drop i xs)) out₀ out n → Filling whole (map g (drop (i + 1) xs)) out₀ (set out n (g (get_or xs i d))) (n + 1)
  fill_map d h f = fill_push (rw (drop_step xs i d h) at f)

  pub fill_map_over : length xs ≤ i → Filling whole (map g (drop i xs)) out₀ out n → Listed whole out₀ out n
  fill_map_over h f = fill_end (rw (drop_of_length-le xs h) at f)

pub filter_step {ℓ} : {A : Type ℓ} (p : A → Bool) (l : List A) (i : ℕ) (d : A) → i < length l → filter p (drop i l) ≡ cons_if (p (get_or l i d)) (get_or l i d) (filter p (drop (i + 1) l))
unfolding filter
filter_step p l i d h = rw (drop_step l i d h)

pub filter_over {ℓ} : {A : Type ℓ} (p : A → Bool) (l : List A) (i : ℕ) → length l ≤ i → filter p (drop i l) ≡ []
unfolding filter
filter_over p l i h = rw (drop_of_length-le l h)

-- ---- the frames that pass
pub keep_step : (t : ℕ → Bool) (i n : ℕ) → i < n → keep t i (n - i) ≡ cons_if (t i) i (keep t (i + 1) (n - (i + 1)))
unfolding keep
keep_step t i n h =
    let e : n - i ≡ suc (n - (i + 1)) = omega arith in
    rw (e, add-one)

pub keep_over : (t : ℕ → Bool) (i n : ℕ) → n ≤ i → keep t i (n - i) ≡ []
unfolding keep
keep_over t i n h =
    let e : n - i ≡ 0 = omega arith in
    rw e

pub keep_fits : (t : ℕ → Bool) (i k : ℕ) → length (keep t i k) ≤ k
unfolding keep
keep_fits t i zero = omega arith
keep_fits t i (suc k) = length_cons_if (t i) i (keep t (suc i) k) (keep_fits t (suc i) k)

-- tests that agree on the frames keep the same of them
pub keep_same : (t u : ℕ → Bool) (i k : ℕ) → ((j : ℕ) → i ≤ j → j < i + k → t j ≡ u j) → keep t i k ≡ keep u i k
unfolding keep
keep_same t u i zero f = refl
keep_same t u i (suc k) f = ap₂ (λ (b : Bool) (l : List ℕ). cons_if b i l) (f i (omega arith) (omega arith)) (keep_same t u (suc i) k (λ j g h. f j (omega arith) (omega arith)))

-- those of a + b frames are those of the first a and those of the b after them
pub keep_split : (t : ℕ → Bool) (i a b : ℕ) → keep t i (a + b) ≡ keep t i a ++ keep t (i + a) b
unfolding keep
keep_split t i zero b = ap₂ (keep t) (sym (add-zero i)) (zero-add b)
keep_split t i (suc a) b =
    let e : suc i + a ≡ i + suc a = omega arith in
    ap (keep t i) (suc-add a b) ∙ ap (cons_if (t i) i) (keep_split t (suc i) a b ∙ ap (λ (j : ℕ). keep t (suc i) a ++ keep t j b) e) ∙ cons_if_append (t i) i (keep t (suc i) a) (keep t (i + suc a) b)

-- frames that do not pass may be left out
pub keep_pass : (t : ℕ → Bool) (i d n : ℕ) → ((j : ℕ) → i ≤ j → j < i + d → t j ≡ false) → keep t i (n - i) ≡ keep t (i + d) (n - (i + d))
keep_pass t i zero n f = rw add-zero
keep_pass t i (suc d) n f = go (leb n i) refl (keep_pass t (i + 1) d n (λ j a b. f j (omega arith) (omega arith)))
  where
    e : i + 1 + d ≡ i + suc d
    e = omega arith

    go : (b : Bool) → leb n i ≡ b → keep t (i + 1) (n - (i + 1)) ≡ keep t (i + 1 + d) (n - (i + 1 + d)) → keep t i (n - i) ≡ keep t (i + suc d) (n - (i + suc d))
    go true q on =
        let h : n ≤ i = leb-true n i q in
        keep_over t i n h ∙ sym (keep_over t (i + suc d) n (omega arith))
    go false q on =
        let h : i < n = leb-false n i q in
        keep_step t i n h ∙ ap (λ (b : Bool). cons_if b i (keep t (i + 1) (n - (i + 1)))) (f i (omega arith) (omega arith)) ∙ on ∙ ap (λ (x : ℕ). keep t x (n - x)) e

module _ (t : ℕ → Bool) (len i : ℕ) (h : i < len) where
  pub keep_yes : {whole out₀ out : List ℕ} {n : ℕ} → t i ≡ true → Filling whole (keep t i (len - i)) out₀ out n → Filling whole (i ∷ keep t (i + 1) (len - (i + 1))) out₀ out n
  keep_yes e f = rw (keep_step t i len h, e) at f

  pub keep_no : {whole out₀ out : List ℕ} {n : ℕ} → t i ≡ false → Filling whole (keep t i (len - i)) out₀ out n → Filling whole (keep t (i + 1) (len - (i + 1))) out₀ out n
  keep_no e f = rw (keep_step t i len h, e) at f
