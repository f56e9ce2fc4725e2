-- Walking over the measured lags, and over the peaks among them. Assumes nothing.
use mathlib.Core.Path.{◌≡◌, refl, sym, ap, ◌∙◌}
use Prim.Native.Nat.{ℕ, zero, suc, ◌+◌, ◌-◌, ◌≤◌, ◌<◌}
use native.Mathlib.Omega.{arith}
use mathlib.Core.Bool.{Bool, true, false, true≢false}
use lib.Dec.{ltb}
use Rattle.std.proofs.Common.{ltb-true, ltb-false, leb, leb-true, leb-false, subst, get_or}
use mathlib.Core.List.{List, map}
use lib.IntN.{ℤ}
use lib.Ieee.{Float, nan, inf}
use Rattle.lists.specs.Results.{keep, cons_if}
use Rattle.lists.specs.By.{better, best_of}
use Rattle.lists.proofs.Fill.{keep_step, keep_over}
use Rattle.lists.proofs.Tabulated.{length_tabulate, tabulate_at}
use Rattle.std.specs.Prelude.{Option, None, Some, MatchOption}
use Rattle.nsdf.specs.Nsdf.{nsdf}
use Rattle.lists.specs.Frames.{at, tabulate}
use Rattle.std.specs.Fn.{Called}
use Rattle.std.specs.Array.{IsFromFnResult, IsFromFnResultFrom}
use Rattle.std.proofs.lemmas.List.{same_lists}
use denote.Param.Members.{Mut}
use Rattle.nsdf.specs.Period.{above, measured, is_peak, is_near, first, best_peak, first_peak}

-- ---- the lags

pub measured_at : (w : List ℤ) (k : ℕ) → k < 200 → at (measured w) k ≡ nsdf w (31 + k)
unfolding measured
measured_at w k h = tabulate_at (λ k. nsdf w (31 + k)) 200 k nan h

-- what `array::from_fn` makes of a closure that stays as it is and answers h i at each i
module _ {F B : Type 0} {g : Mut F (ℕ × Unit {0}) B} (f : F) (h : ℕ → B) (told : (i : ℕ) (y : B) (q : F) → Called g f (i, tt) y q → (q ≡ f) × (y ≡ h i)) (ys : List B) where
  each_call : (p : F) → p ≡ f → (i n : ℕ) → IsFromFnResultFrom g p ys i n → (j : ℕ) (d : B) → i ≤ j → j < i + n → get_or ys j d ≡ h j
  each_call p e i zero r j d l m = absurd (omega arith)
  each_call p e i (suc n) r j d l m =
      let now = told i r.1 r.0 (subst (λ s. Called g s (i, tt) r.1 r.0) e r.3) in
      go (leb j i) refl (r.2.1 d ∙ now.1) (each_call r.0 now.0 (i + 1) n r.4 j d)
    where
      go : (t : Bool) → leb j i ≡ t → get_or ys i d ≡ h i → (i + 1 ≤ j → j < i + 1 + n → get_or ys j d ≡ h j) → get_or ys j d ≡ h j
      go true t here later = let s : i ≡ j = omega (arith, leb-true j i t) in subst (λ k. get_or ys k d ≡ h k) s here
      go false t here later = let s : i < j = leb-false j i t in later (omega arith) (omega arith)

  pub list_of_calls : (n : ℕ) → IsFromFnResult g f ys n → ys ≡ tabulate h n
  list_of_calls n r = same_lists ys (tabulate h n) (r.long ∙ sym (length_tabulate h n)) (λ k d l. let m : k < n = omega (arith, r.long) in each_call f refl 0 n r.each k d (omega arith) (omega arith) ∙ sym (tabulate_at h n k d m))

-- ---- the best of the peaks: `best` with the peaks from k on

abbrev pub best_from : List Float → Float → ℕ → Float
best_from d best k = best_of above best (map (at d) (keep (is_peak d) k (199 - k)))

module _ (d : List Float) where
  pub best_first : best_from d (inf true) 1 ≡ best_peak d
  unfolding best_peak
  best_first = refl

  pub best_last : (best : Float) (k : ℕ) → 199 ≤ k → best_from d best k ≡ best
  best_last best k h = rw (keep_over (is_peak d) k 199 h)

  module _ (k : ℕ) (more : k < 199) where
    pub best_peak_lem : (best : Float) → is_peak d k ≡ true → best_from d (better above best (at d k)) (k + 1) ≡ best_from d best k
    best_peak_lem best t = rw (keep_step (is_peak d) k 199 more, t)

    pub best_none : (best : Float) → is_peak d k ≡ false → best_from d best (k + 1) ≡ best_from d best k
    best_none best t = rw (keep_step (is_peak d) k 199 more, t)

-- ---- the first of the numbers below b, from a on, that pass

module _ (t : ℕ → Bool) where
  first_none : (a n : ℕ) → ((k : ℕ) → a ≤ k → k < a + n → t k ≡ false) → None ≡ first (keep t a n)
  unfolding keep
  first_none a zero h = refl
  first_none a (suc n) h = rw (h a (omega arith) (omega arith)) (first_none (suc a) n (λ k l m. h k (omega arith) (omega arith)))

  first_some : (a n i : ℕ) → a ≤ i → i < a + n → t i ≡ true → ((k : ℕ) → a ≤ k → k < i → t k ≡ false) → Some i ≡ first (keep t a n)
  unfolding keep
  first_some a zero i l m e h = absurd (omega arith)
  first_some a (suc n) i l m e h = go (t a) refl (λ p. first_some (suc a) n i p (omega arith) e (λ k u v. h k (omega arith) v))
    where
      same : (b : Bool) → t a ≡ true → ltb a i ≡ b → i ≡ a
      same true f s = absurd (true≢false (sym f ∙ h a (omega arith) (ltb-true a i s)))
      same false f s = let u : i ≤ a = ltb-false a i s in omega arith

      past : (b : Bool) → t a ≡ false → ltb a i ≡ b → suc a ≤ i
      past true f s = let u : a < i = ltb-true a i s in omega arith
      past false f s = let u : i ≤ a = ltb-false a i s in let v : i ≡ a = omega arith in absurd (true≢false (sym e ∙ ap t v ∙ f))

      go : (b : Bool) → t a ≡ b → (suc a ≤ i → Some i ≡ first (keep t (suc a) n)) → Some i ≡ first (cons_if b a (keep t (suc a) n))
      go true f later = ap Some (same (ltb a i) f refl)
      go false f later = later (past (ltb a i) f refl)

  pub first_of : (r : Option ℕ) (a n : ℕ) → MatchOption r ((k : ℕ) → a ≤ k → k < a + n → t k ≡ false) (λ i. (a ≤ i) × (i < a + n) × (t i ≡ true) × ((k : ℕ) → a ≤ k → k < i → t k ≡ false))
      → r ≡ first (keep t a n)
  first_of None a n h = first_none a n h
  first_of (Some i) a n h = first_some a n i h.0 h.1 h.2 h.3

-- ---- a peak that is found is one of those that were looked at

first_within : (t : ℕ → Bool) (a n k : ℕ) → first (keep t a n) ≡ Some k → (a ≤ k) × (k < a + n)
unfolding keep
first_within t a zero k e = let z : ◌≡◌ {A = ℕ} 0 1 = cc in omega arith
first_within t a (suc n) k e = go (t a) (first_within t (suc a) n k) e
  where
    go : (b : Bool) → (first (keep t (suc a) n) ≡ Some k → (suc a ≤ k) × (k < suc a + n)) → first (cons_if b a (keep t (suc a) n)) ≡ Some k → (a ≤ k) × (k < a + suc n)
    go true ih e = let z : a ≡ k = cc in omega arith
    go false ih e = let h : (suc a ≤ k) × (k < suc a + n) = ih e in omega arith

pub peak_within : (d : List Float) (least : Float) (k : ℕ) → first_peak d least ≡ Some k → (0 < k) × (k < 199)
unfolding first_peak
peak_within d least k e = let h : (1 ≤ k) × (k < 1 + 198) = first_within (is_near d least) 1 198 k e in omega arith
