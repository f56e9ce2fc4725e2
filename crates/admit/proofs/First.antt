-- The first number of which a test fails: found from the front, and 0 only where every test is passed. Assumes nothing.
use Prim.Native.Nat.{ℕ, ◌+◌, ◌<◌, ◌≤◌}
use native.Mathlib.Numerals.{add-one}
use native.Mathlib.Omega.{arith}
use mathlib.Core.Path.{◌≡◌, refl, sym, ap, ap₂, ◌∙◌}
use mathlib.Core.Bool.{Bool, true, false, not, ◌&&◌, ◌||◌, cond, and-true, and_assoc, false≢true}
use mathlib.Core.List.{List, [], ◌∷◌, map, map_congr_left}
use mathlib.Core.Logic.{◌⊎◌, inl, inr}
use borrow.Author.Tests.{ltb-true, eqb-true, eq-eqb}
use lib.Dec.{ltb, eqb}
use lib.ListN.{length, drop, get_or, drop_of_length-le}
use lib.Seq.{drop-cons}
use Rattle.lists.specs.By.{Each}
use Rattle.lists.specs.Marks.{member}
use Rattle.lists.proofs.Tests.{and_cases, or_cases}
use Rattle.admit.specs.Values.{all_of}
use Rattle.admit.specs.declared.numbers.Refusal.{Refusal}
use Rattle.admit.specs.Numbers.{number_at, number_of, numbers_by, tests_in}
use Rattle.std.specs.Result.{IsErrAnd}
use Rattle.std.specs.Prelude.{Result, Ok, Err}
use Rattle.admit.proofs.Numbered.{not_zero}
use Rattle.admit.specs.First.{Test, first_of, passes, first_failed}

-- ---- by what the tests are known to equal, those of a number joined one after the other as the code does
unfoldable pub passed_in_turn : Bool → List Test → ℕ → Bool
passed_in_turn before [] n = before
passed_in_turn before (t ∷ tests) n = passed_in_turn (cond (eqb t.number n) (before && t.passed) before) tests n

join_one : (same before b later : Bool) → (before && ((not same || b) && later)) ≡ (cond same (before && b) before && later)
join_one true before b later = sym (and_assoc before b later)
join_one false before b later = refl

joined_pass : (before : Bool) (tests : List Test) (n : ℕ) → (before && passes tests n) ≡ passed_in_turn before tests n
unfolding passes all_of passed_in_turn
joined_pass before [] n = and-true before
joined_pass before (t ∷ tests) n = join_one (eqb t.number n) before t.passed (passes tests n) ∙ joined_pass (cond (eqb t.number n) (before && t.passed) before) tests n

pub numbered : (order : List ℕ) (tests : List Test) {bs : List Bool} {r : ℕ} → r ≡ first_of order bs → bs ≡ map (passed_in_turn true tests) order → r ≡ first_failed order tests
unfolding first_failed
numbered order tests e h = e ∙ ap (first_of order) (h ∙ sym (map_congr_left {f = passes tests} {g = passed_in_turn true tests} {l = order} (λ n _. joined_pass true tests n)))

pub stop : (n : ℕ) (ns : List ℕ) (tests : List Test) → passed_in_turn true tests n ≡ false → n ≡ first_failed (n ∷ ns) tests
unfolding first_failed first_of
stop n ns tests h = simp (joined_pass true tests n ∙ h)

-- 1 is tested by itself: its tests fail, or what is left tells
module _ (ns : List ℕ) (tests : List Test) where
  pub at_once : {r : ℕ} → (r ≡ 0 → ⊥) → r ≡ cond (passes tests 1) 0 1 → r ≡ first_failed (1 ∷ ns) tests
  unfolding first_failed first_of
  at_once {r} some e = go (passes tests 1) _ e
    where
      go : (b : Bool) (later : ℕ) → r ≡ cond b 0 1 → r ≡ cond b later 1
      go true later e = absurd (some e)
      go false later e = e

  -- what is answered then is the refusal of the lengths
  pub refused_at_once : {A : Type 0} (r : Result A Refusal) (x : Refusal) → IsErrAnd r (λ y. y ≡ x) → number_at x ≡ cond (passes tests 1) 0 1 → number_of r ≡ first_failed (1 ∷ ns) tests
  refused_at_once (Ok v) x h e = absurd h
  refused_at_once (Err y) x h e = rw h (at_once (not_zero _) e)

  pub later : {bs : List Bool} {r : ℕ} → ◌≡◌ {A = ℕ} 0 (cond (passes tests 1) 0 1) → r ≡ first_of (1 ∷ ns) (true ∷ bs) → bs ≡ map (passed_in_turn true tests) ns → r ≡ first_failed (1 ∷ ns) tests
  unfolding first_failed first_of
  later {bs} {r} e h q = h ∙ go (passes tests 1) e (numbered ns tests refl q)
    where
      go : (b : Bool) {k l : ℕ} → ◌≡◌ {A = ℕ} 0 (cond b 0 1) → k ≡ l → k ≡ cond b l 1
      go true e q = q
      go false e q = absurd (omega (arith, e))

pub next : {b t : Bool} {bs ts : List Bool} → b ≡ t → bs ≡ ts → (b ∷ bs) ≡ (t ∷ ts)
next e h = ap₂ ◌∷◌ e h

-- what comes after the first test need agree only where that is passed
pub after_first : (n : ℕ) (ns : List ℕ) (b : Bool) {bs ts : List Bool} → (b ≡ true → bs ≡ ts) → first_of (n ∷ ns) (b ∷ bs) ≡ first_of (n ∷ ns) (b ∷ ts)
unfolding first_of
after_first n ns true h = ap (first_of ns) (h refl)
after_first n ns false h = refl

-- ---- from the front: what is left after i rows says the same as the table, by any numbers
module _ {T : Type 0} (number : T → ℕ) (table : List (Bool × T)) (i : ℕ) (h : first_of (numbers_by number (drop i table)) (tests_in (drop i table)) ≡ first_of (numbers_by number table) (tests_in table)) where
  pub at_failed : (d : Bool × T) → i < length table → (get_or table i d).0 ≡ false → number (get_or table i d).1 ≡ first_of (numbers_by number table) (tests_in table)
  unfolding first_of
  at_failed d l e = rw e at (rw (drop-cons table i d l) at h)

  pub past_passed : (d : Bool × T) → i < length table → (get_or table i d).0 ≡ true → first_of (numbers_by number (drop (i + 1) table)) (tests_in (drop (i + 1) table)) ≡ first_of (numbers_by number table) (tests_in table)
  unfolding first_of
  past_passed d l e = rw (add-one i) (rw e at (rw (drop-cons table i d l) at h))

  pub none_failed : length table ≤ i → 0 ≡ first_of (numbers_by number table) (tests_in table)
  unfolding first_of
  none_failed l = rw (drop_of_length-le table l) at h

-- ---- 0: every test is passed
cond_zero : (b : Bool) {later n : ℕ} → 0 < n → cond b later n ≡ 0 → (b ≡ true) × (later ≡ 0)
cond_zero true l h = (refl, h)
cond_zero false l h = absurd (omega arith)

-- each number of the order
numbers_passed : (p : ℕ → Bool) (ns : List ℕ) → all_of (ltb 0) ns ≡ true → first_of ns (map p ns) ≡ 0 → (n : ℕ) → member ns n ≡ true → p n ≡ true
unfolding all_of first_of member
numbers_passed p [] l h n e = absurd (false≢true e)
numbers_passed p (m ∷ ns) l h n e =
    let some = and_cases (ltb 0 m) (all_of (ltb 0) ns) l in
    let here = cond_zero (p m) (ltb-true 0 m some.0) h in
    go (or_cases (eqb m n) (member ns n) e) here.0 (numbers_passed p ns some.1 here.1 n)
  where
    go : (eqb m n ≡ true) ⊎ (member ns n ≡ true) → p m ≡ true → (member ns n ≡ true → p n ≡ true) → p n ≡ true
    go (inl q) f g = sym (ap p (eqb-true m n q)) ∙ f
    go (inr q) f g = g q

-- each test of a number
tests_passed : (ts : List Test) (n : ℕ) → passes ts n ≡ true → Each (λ t. t.number ≡ n → t.passed ≡ true) ts
unfolding passes all_of
tests_passed [] n h = tt
tests_passed (t ∷ ts) n h =
    let both = and_cases (not (eqb t.number n) || t.passed) (passes ts n) h in
    ((λ same. rw (eq-eqb t.number n same) at both.0), tests_passed ts n both.1)

-- 0 means that each test is passed whose number is in the order
pub all_passed : (order : List ℕ) (tests : List Test) → all_of (ltb 0) order ≡ true → all_of (λ t. member order t.number) tests ≡ true → first_failed order tests ≡ 0 → Each (λ t. t.passed ≡ true) tests
unfolding all_of first_failed
all_passed order tests l m h = go tests m (λ n e. tests_passed tests n (numbers_passed (passes tests) order l h n e))
  where
    go : (ts : List Test) → all_of (λ t. member order t.number) ts ≡ true → ((n : ℕ) → member order n ≡ true → Each (λ t. t.number ≡ n → t.passed ≡ true) ts) → Each (λ t. t.passed ≡ true) ts
    go [] m f = tt
    go (t ∷ ts) m f = let in_order = and_cases (member order t.number) (all_of (λ t. member order t.number) ts) m in ((f t.number in_order.0).0 refl, go ts in_order.1 (λ n e. (f n e).1))
