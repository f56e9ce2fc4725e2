-- The frames that pass a test, walked from either end: the first and the last. Assumes nothing.
use Rattle.std.proofs.Common.{◌≡◌, ℕ, ◌+◌, ◌-◌, ◌<◌, Bool, true, false, List, [], ◌∷◌, ◌++◌, get_or, refl, ap, ◌∙◌, append-nil, sym, zero-add, arith}
use Rattle.std.specs.Prelude.{Option, None, Some, MatchOption}
use Rattle.lists.specs.Frames.{first_in}
use Rattle.lists.specs.Results.{cons_if, keep}
use Rattle.lists.proofs.Fill.{keep_step, keep_split}
use Rattle.lists.proofs.Firsts.{first_some, keep_some, keep_none}
use Rattle.region.specs.Speech.{last_of}

-- ---- from the front
pub keep_all : (t : ℕ → Bool) (n : ℕ) → keep t 0 (n - 0) ≡ keep t 0 n
keep_all t n = ap (keep t 0) (omega arith)

-- what a search from the front finds is the first of the frames that are kept
pub first_told : (t : ℕ → Bool) (n : ℕ) {r : Option ℕ} → r ≡ first_in t 0 (n - 0) → MatchOption r (keep t 0 n ≡ []) (λ i. (i ≡ get_or (keep t 0 n) 0 0) × (i < n))
first_told t n {r = None} e = sym (keep_all t n) ∙ keep_none t 0 n (sym e)
first_told t n {r = Some i} e =
    let f = first_some t 0 n (sym e) in
    (sym (ap (λ (l : List ℕ). get_or l 0 0) (sym (keep_all t n) ∙ keep_some t 0 n (sym e)) ∙ rw (keep_step t i n f.high, f.here)), f.high)

-- ---- from the end
keep_last : (t : ℕ → Bool) (i : ℕ) → keep t 0 (i + 1) ≡ keep t 0 i ++ cons_if (t i) i []
unfolding keep
keep_last t i = keep_split t 0 i 1 ∙ ap (λ (j : ℕ). keep t 0 i ++ cons_if (t j) j []) (zero-add i)

last_more : (z : ℕ) (l : List ℕ) (x : ℕ) → last_of z (l ++ (x ∷ [])) ≡ x
last_more z [] x = refl
last_more z (y ∷ l) x = last_more y l x

module _ (t : ℕ → Bool) (i : ℕ) where
  pub last_here : t i ≡ true → last_of 0 (keep t 0 (i + 1)) ≡ i
  last_here e = rw (keep_last t i, e) (last_more 0 (keep t 0 i) i)

  pub last_sooner : t i ≡ false → keep t 0 (i + 1) ≡ keep t 0 i
  last_sooner e = rw (keep_last t i, e) (append-nil (keep t 0 i))
