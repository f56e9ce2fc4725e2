-- The first frame that passes a test, where one does: what is found and what is not (`first_some`, `first_none`), what it says of the frames that are kept, and the
-- turns of the search. Assumes nothing.
use Prim.Native.Nat.{ℕ, zero, suc, ◌+◌, ◌-◌, ◌≤◌, ◌<◌}
use native.Mathlib.Nat.{add-zero}
use native.Mathlib.Omega.{arith}
use mathlib.Core.Path.{◌≡◌, refl, sym, ap, ◌∙◌}
use mathlib.Core.Bool.{Bool, true, false, ◌||◌, cond, or-true, or-false}
use mathlib.Core.List.{[]}
use borrow.Author.Tests.{leb-true, leb-false, lt-ltb}
use mir.Val.{bool_byte}
use lib.Dec.{leb, ltb}
use Rattle.std.specs.Prelude.{Option, None, Some, unwrap_or}
use Rattle.lists.specs.Frames.{some_frame, first_frame, first_in}
use Rattle.lists.specs.Results.{keep}
use Rattle.lists.proofs.Tests.{or_none}
use Rattle.lists.proofs.Fill.{keep_over, keep_pass}
use Rattle.lists.proofs.Walks.{NonePass, none_yet, none_join, none_more}

one_more : (n : ℕ) (b c : Bool) {whole : Bool} → (ltb 0 n || (b || c)) ≡ whole → (ltb 0 (n + bool_byte b) || c) ≡ whole
one_more n true c w = rw (lt-ltb 0 (n + 1) (omega arith)) (rw or-true at w)
one_more n false c w = rw add-zero w

-- an answer adds one at most
pub byte_one : (b : Bool) → bool_byte b ≤ 1
byte_one true = omega arith
byte_one false = omega arith

module _ (t : ℕ → Bool) where
  -- ---- the turns of the search
  first_over : (i n : ℕ) → n ≤ i → first_in t i (n - i) ≡ None
  unfolding first_in
  first_over i n h =
      let e : n - i ≡ 0 = omega arith in
      rw e

  step : (i n : ℕ) → i < n → first_in t i (n - i) ≡ cond (t i) (Some i) (first_in t (i + 1) (n - (i + 1)))
  unfolding first_in
  step i n h =
      let e : n - i ≡ suc (n - (i + 1)) = omega arith in
      rw e

  first_later : (i n : ℕ) → i < n → t i ≡ false → first_in t i (n - i) ≡ first_in t (i + 1) (n - (i + 1))
  first_later i n h e = rw (step i n h, e)

  -- frames that do not pass may be left out
  first_pass : (i n d : ℕ) → NonePass t i (i + d) → first_in t i (n - i) ≡ first_in t (i + d) (n - (i + d))
  first_pass i n zero f = let e : i + 0 ≡ i = omega arith in rw e
  first_pass i n (suc d) f = go (leb n i) refl (first_pass (i + 1) n d (λ j a b. f j (omega arith) (omega arith)))
    where
      e : i + 1 + d ≡ i + suc d
      e = omega arith

      go : (b : Bool) → leb n i ≡ b → first_in t (i + 1) (n - (i + 1)) ≡ first_in t (i + 1 + d) (n - (i + 1 + d)) → first_in t i (n - i) ≡ first_in t (i + suc d) (n - (i + suc d))
      go true q on =
          let h : n ≤ i = leb-true n i q in
          first_over i n h ∙ sym (first_over (i + suc d) n (omega arith))
      go false q on =
          let h : i < n = leb-false n i q in
          first_later i n h (f i (omega arith) (omega arith)) ∙ on ∙ ap (λ (x : ℕ). first_in t x (n - x)) e

  -- ---- of the k frames from i on none passes, where it is not the case that some does
  none_some : (i k : ℕ) → some_frame t i k ≡ false → NonePass t i (i + k)
  unfolding some_frame
  none_some i zero e = let d : i + 0 ≡ i = omega arith in rw d (none_yet t i)
  none_some i (suc k) e =
      let both = or_none (t i) (some_frame t (i + 1) k) e in
      let d : i + 1 + k ≡ i + suc k = omega arith in
      none_join t (none_more t (none_yet t i) both.0) (rw d at (none_some (i + 1) k both.1))

  -- what is found from frame i on is what is found in all
  module _ (i n : ℕ) {whole : Option ℕ} (w : first_in t i (n - i) ≡ whole) where
    pub first_stop : i < n → t i ≡ true → Some i ≡ whole
    first_stop h e = rw (step i n h, e) at w

    pub first_on : i < n → t i ≡ false → first_in t (i + 1) (n - (i + 1)) ≡ whole
    first_on h e = rw (step i n h, e) at w

    pub first_end : n ≤ i → None ≡ whole
    first_end h = rw (first_over i n h) at w

    pub first_past : (d : ℕ) → some_frame t i d ≡ false → first_in t (i + d) (n - (i + d)) ≡ whole
    first_past d e = rw (first_pass i n d (none_some i d e)) at w

  -- some of n frames passes: `passed` of those before frame k do, or one from k on
  pub some_turn : (k n passed : ℕ) {here whole : Bool} → k < n → here ≡ t k → (ltb 0 passed || some_frame t k (n - k)) ≡ whole → (ltb 0 (passed + bool_byte here) || some_frame t (k + 1) (n - (k + 1))) ≡ whole
  unfolding some_frame
  some_turn k n passed {here} {whole} h e w =
      let d : n - k ≡ suc (n - (k + 1)) = omega arith in
      one_more passed here (some_frame t (k + 1) (n - (k + 1))) (rw (d, ← e) at w)

  pub some_end : (k n passed : ℕ) {whole : Bool} → n ≤ k → (ltb 0 passed || some_frame t k (n - k)) ≡ whole → ltb 0 passed ≡ whole
  unfolding some_frame
  some_end k n passed h w =
      let d : n - k ≡ 0 = omega arith in
      rw (d, or-false) at w

  -- ---- what is found
  pub record FirstPass (i n k : ℕ) : Type 0 where
    pub low : i ≤ k
    pub high : k < n
    pub before : NonePass t i k
    pub here : t k ≡ true

  found : (k : ℕ) → (i r : ℕ) → first_in t i k ≡ Some r → FirstPass i (i + k) r
  unfolding first_in
  found zero i r e = absurd cc
  found (suc k) i r e = go (t i) refl e (found k (i + 1) r)
    where
      go : (b : Bool) → t i ≡ b → cond b (Some i) (first_in t (i + 1) k) ≡ Some r → (first_in t (i + 1) k ≡ Some r → FirstPass (i + 1) (i + 1 + k) r) → FirstPass i (i + suc k) r
      go true q p on =
          let d : i ≡ r = cc in
          record { low = omega arith; high = omega arith; before = (λ j a b. absurd (omega arith)); here = rw (← d) q }
      go false q p on =
          let f = on p in
          record { low = omega (arith, f.low); high = omega (arith, f.high); before = none_join t (none_more t (none_yet t i) q) f.before; here = f.here }

  none_found : (k : ℕ) → (i : ℕ) → first_in t i k ≡ None → NonePass t i (i + k)
  unfolding first_in
  none_found zero i e = λ j a b. absurd (omega arith)
  none_found (suc k) i e = go (t i) refl e (none_found k (i + 1))
    where
      go : (b : Bool) → t i ≡ b → cond b (Some i) (first_in t (i + 1) k) ≡ None → (first_in t (i + 1) k ≡ None → NonePass t (i + 1) (i + 1 + k)) → NonePass t i (i + suc k)
      go true q p on = absurd cc
      go false q p on =
          let d : i + 1 + k ≡ i + suc k = omega arith in
          none_join t (none_more t (none_yet t i) q) (rw d at (on p))

  -- one passes, and none before it
  pub first_some : (i n : ℕ) {k : ℕ} → first_in t i (n - i) ≡ Some k → FirstPass i n k
  first_some i n {k} e = go (leb n i) refl
    where
      go : (b : Bool) → leb n i ≡ b → FirstPass i n k
      go true q = absurd (let p = sym e ∙ first_over i n (leb-true n i q) in cc)
      go false q =
          let h : i < n = leb-false n i q in
          let d : i + (n - i) ≡ n = omega arith in
          rw d at (found (n - i) i k e)

  -- none passes
  pub first_none : (i n : ℕ) → first_in t i (n - i) ≡ None → NonePass t i n
  first_none i n e j a b = none_found (n - i) i e j a (omega arith)

  -- ---- in words of the other searches
  -- the frames that are kept begin there
  pub keep_some : (i n : ℕ) {k : ℕ} → first_in t i (n - i) ≡ Some k → keep t i (n - i) ≡ keep t k (n - k)
  keep_some i n {k} e =
      let f = first_some i n e in
      let d : i + (k - i) ≡ k = omega (arith, f.low) in
      rw d at (keep_pass t i (k - i) n (rw d f.before))

  pub keep_none : (i n : ℕ) → first_in t i (n - i) ≡ None → keep t i (n - i) ≡ []
  keep_none i n e = go (leb n i) refl
    where
      go : (b : Bool) → leb n i ≡ b → keep t i (n - i) ≡ []
      go true q = keep_over t i n (leb-true n i q)
      go false q =
          let h : i < n = leb-false n i q in
          let d : i + (n - i) ≡ n = omega arith in
          keep_pass t i (n - i) n (rw d (first_none i n e)) ∙ keep_over t (i + (n - i)) n (omega arith)

  or_end : (n k i : ℕ) → i + k ≡ n → first_frame t i k ≡ unwrap_or (first_in t i k) n
  unfolding first_frame first_in
  or_end n zero i e = omega arith
  or_end n (suc k) i e = go (t i) (or_end n k (i + 1) (omega arith))
    where
      go : (b : Bool) → first_frame t (i + 1) k ≡ unwrap_or (first_in t (i + 1) k) n → cond b i (first_frame t (i + 1) k) ≡ unwrap_or (cond b (Some i) (first_in t (i + 1) k)) n
      go true e = refl
      go false e = e

  -- where none passes, the end
  pub first_or : (i n : ℕ) → i ≤ n → first_frame t i (n - i) ≡ unwrap_or (first_in t i (n - i)) n
  first_or i n h = or_end n (n - i) i (omega arith)
