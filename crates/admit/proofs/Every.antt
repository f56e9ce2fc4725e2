-- A test of every entry, made from the front: what is found so far and the test of what is left make up the whole. Assumes nothing.
use Prim.Native.Nat.{ℕ, ◌+◌, ◌<◌, ◌≤◌}
use native.Mathlib.Numerals.{add-one}
use native.Mathlib.Omega.{arith}
use mathlib.Core.Path.{◌≡◌, refl, sym, ◌∙◌}
use mathlib.Core.Bool.{Bool, true, false, ◌&&◌, and_assoc}
use mathlib.Core.List.{List, [], ◌∷◌}
use lib.Dec.{leb, ltb}
use lib.ListN.{length, get_or, drop, drop_of_length-le}
use lib.Seq.{drop-cons}
use borrow.Author.Tests.{leb-true, ltb-true}
use Rattle.lists.specs.By.{Each}
use Rattle.lists.specs.Sorted.{StrictlyRises}
use Rattle.lists.proofs.Tests.{and_cases}
use Rattle.admit.specs.Values.{all_of, rising}

whole : (a b : Bool) → b ≡ true → (a && b) ≡ a
whole true b h = h
whole false b h = refl

-- `good` says whether the first i entries pass
pub record Tested {A : Type 0} (t : A → Bool) (xs : List A) (good : Bool) (i : ℕ) : Type 0 where
  pub within : i ≤ length xs
  pub split : (good && all_of t (drop i xs)) ≡ all_of t xs

module _ {A : Type 0} {t : A → Bool} {xs : List A} where
  pub tested_start : Tested t xs true 0
  tested_start = record { within = omega arith; split = refl }

  pub tested_turn : {good b : Bool} {i : ℕ} (d : A) → i < length xs → Tested t xs good i → b ≡ t (get_or xs i d) → Tested t xs (good && b) (i + 1)
  unfolding all_of
  tested_turn {good} {b} {i} d l h e = record { within = omega arith; split = rw (e, add-one i, and_assoc) (rw (drop-cons xs i d l) at h.split) }

  pub tested_end : {good : Bool} {i : ℕ} → length xs ≤ i → Tested t xs good i → good ≡ all_of t xs
  unfolding all_of
  tested_end {good} {i} l h = sym (whole good (all_of t (drop i xs)) (rw (drop_of_length-le xs l))) ∙ h.split

module _ {A : Type 0} (t : A → Bool) where
  -- every entry that a test admits has what the test says
  pub each_passed : (P Q : A → Type 0) → ((x : A) → P x → t x ≡ true → Q x) → (xs : List A) → Each P xs → all_of t xs ≡ true → Each Q xs
  unfolding all_of
  each_passed P Q f [] h e = tt
  each_passed P Q f (x ∷ xs) h e = let both = and_cases (t x) (all_of t xs) e in (f x h.0 both.0, each_passed P Q f xs h.1 both.1)

-- `good` says whether the first i entries rise below n, and `lo` is the least that may come next
pub record Rising (n : ℕ) (xs : List ℕ) (good : Bool) (lo i : ℕ) : Type 0 where
  pub within : i ≤ length xs
  pub split : (good && rising lo n (drop i xs)) ≡ rising 0 n xs

module _ {n : ℕ} {xs : List ℕ} where
  pub rising_start : Rising n xs true 0 0
  rising_start = record { within = omega arith; split = refl }

  pub rising_turn : {good b : Bool} {lo next i : ℕ} → i < length xs → Rising n xs good lo i → b ≡ (leb lo (get_or xs i 0) && ltb (get_or xs i 0) n) → next ≡ get_or xs i 0 + 1 → Rising n xs (good && b) next (i + 1)
  unfolding rising
  rising_turn {good} {b} {lo} {next} {i} l h e f = record { within = omega arith; split = rw (e, f, add-one i, and_assoc) (rw (drop-cons xs i 0 l) at h.split) }

  pub rising_end : {good : Bool} {lo i : ℕ} → length xs ≤ i → Rising n xs good lo i → good ≡ rising 0 n xs
  unfolding rising
  rising_end {good} {lo} {i} l h = sym (whole good (rising lo n (drop i xs)) (rw (drop_of_length-le xs l))) ∙ h.split

pub rising_is : (lo hi : ℕ) (xs : List ℕ) → rising lo hi xs ≡ true → StrictlyRises lo hi xs
unfolding rising
rising_is lo hi [] e = tt
rising_is lo hi (x ∷ xs) e =
    let rest = and_cases (leb lo x && ltb x hi) (rising (x + 1) hi xs) e in
    let here = and_cases (leb lo x) (ltb x hi) rest.0 in
    (leb-true lo x here.0, ltb-true x hi here.1, rising_is (x + 1) hi xs rest.1)
