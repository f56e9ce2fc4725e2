-- The extremum of the frames from a to b. The first best frame lies in a to b (`best_within`), no frame from a to b is beyond it (`best_unbeaten`), and it is beyond each one before it, where it
-- is a number (`best_first`); the middle of its flat stretch lies in a to b too (`middle_within`). A walk that has the furthest value finds it: a frame is unbeaten just where that value is not
-- beyond it (`unbeaten_test`). Assumes nothing.
use Prim.Native.Nat.{ℕ, zero, suc, ◌+◌, ◌-◌, ◌≤◌, ◌<◌}
use native.Mathlib.Nat.{add-zero, eq-or-lt_of_le}
use native.Mathlib.Numerals.{add-one}
use native.Mathlib.Omega.{arith}
use mathlib.Core.Path.{◌≡◌, refl, sym, ap, ◌∙◌}
use mathlib.Core.Bool.{Bool, true, false, not, ◌||◌, cond, or-false, or_assoc, true≢false}
use mathlib.Core.List.{List, ◌∷◌}
use mathlib.Core.Logic.{⊎_elim}
use borrow.Author.Tests.{not-true, not-false}
use lib.ListN.{length}
use lib.Seq.{slice, slice-cons, slice_empty}
use lib.Ieee.{Float, nan, inf, fin, lt, is_nan}
use Rattle.smooth.specs.declared.extrema.Extremum.{Extremum}
use Rattle.smooth.specs.declared.extrema.Extremum.TheVariants.{Max, Min}
use Rattle.lists.specs.Frames.{at, some_frame}
use Rattle.lists.specs.By.{best_of}
use Rattle.smooth.specs.Extrema.{beyond, further, unreached, furthest, unbeaten, first_best, changes_after, flat_last, middle, extremum_middle}
use Rattle.lists.proofs.Tests.{not_holds}
use Rattle.lists.proofs.Walks.{First, first_is, some_at}
use Rattle.smooth.proofs.Order.{beyond_trans, beyond_from, beyond_itself, beyond_number}

-- ---- the furthest value
module _ (kind : Extremum) where
  further_number : (m x : Float) → is_nan m ≡ false → is_nan (further kind m x) ≡ false
  further_number m x h = go (beyond kind x m) refl
    where
      go : (b : Bool) → beyond kind x m ≡ b → is_nan (cond b x m) ≡ false
      go true e = beyond_number kind x m e
      go false e = h

  -- the further of two is beyond v where one of them is
  further_beyond : (m x v : Float) → is_nan m ≡ false → beyond kind (further kind m x) v ≡ (beyond kind m v || beyond kind x v)
  further_beyond m x v h = go (beyond kind x m) refl (beyond kind m v) refl (beyond kind x v) refl
    where
      go : (b : Bool) → beyond kind x m ≡ b → (p : Bool) → beyond kind m v ≡ p → (q : Bool) → beyond kind x v ≡ q → beyond kind (cond b x m) v ≡ (p || q)
      go true e true f q g = beyond_trans kind x m v e f
      go true e false f q g = g
      go false e true f q g = f
      go false e false f true g = beyond_from kind x m v h e g
      go false e false f false g = f

  unreached_number : is_nan (unreached kind) ≡ false
  unfolding is_nan
  unreached_number = go kind
    where
      go : (kind : Extremum) → is_nan (unreached kind) ≡ false
      go Max = refl
      go Min = refl

  module _ (s : List Float) where
    -- k frames from i on
    beyond_some : (v m : Float) (i k : ℕ) → i + k ≤ length s → is_nan m ≡ false →
        beyond kind (best_of (beyond kind) m (slice i (i + k) s)) v ≡ (beyond kind m v || some_frame (λ j. beyond kind (at s j) v) i k)
    unfolding some_frame
    beyond_some v m i zero l h = rw (add-zero i, slice_empty i s) (sym (or-false (beyond kind m v)))
    beyond_some v m i (suc k) l h =
        let e : i + suc k ≡ i + 1 + k = omega arith in
        let x = at s i in
        ap (λ (n : ℕ). beyond kind (best_of (beyond kind) m (slice i n s)) v) e
        ∙ ap (λ (r : List Float). beyond kind (best_of (beyond kind) m r) v) (slice-cons i (i + 1 + k) s nan (omega arith) (omega arith) ∙ ap (λ (n : ℕ). x ∷ slice n (i + 1 + k) s) (sym (add-one i)))
        ∙ beyond_some v (further kind m x) (i + 1) k (omega arith) (further_number m x h)
        ∙ ap (λ (c : Bool). c || some_frame (λ j. beyond kind (at s j) v) (i + 1) k) (further_beyond m x v h)
        ∙ or_assoc (beyond kind m v) (beyond kind x v) (some_frame (λ j. beyond kind (at s j) v) (i + 1) k)

    -- a value from which every frame is beaten is the one that the walk began with
    all_beaten : (far m : Float) (i k : ℕ) → i + k ≤ length s → far ≡ best_of (beyond kind) m (slice i (i + k) s) → ((j : ℕ) → i ≤ j → j < i + k → beyond kind far (at s j) ≡ true) → far ≡ m
    all_beaten far m i zero l e f = e ∙ rw (add-zero i, slice_empty i s)
    all_beaten far m i (suc k) l e f =
        let n : i + suc k ≡ i + 1 + k = omega arith in
        let d : far ≡ best_of (beyond kind) (further kind m (at s i)) (slice (i + 1) (i + 1 + k) s) =
        e ∙ ap (λ (z : ℕ). best_of (beyond kind) m (slice i z s)) n ∙ rw (slice-cons i (i + 1 + k) s nan (omega arith) (omega arith), add-one) in
        go (beyond kind (at s i) m) refl (all_beaten far (further kind m (at s i)) (i + 1) k (omega arith) d (λ j p q. f j (omega arith) (omega arith)))
      where
        go : (b : Bool) → beyond kind (at s i) m ≡ b → far ≡ cond b (at s i) m → far ≡ m
        go true e r = absurd (true≢false (sym (f i (omega arith) (omega arith)) ∙ ap (λ (z : Float). beyond kind z (at s i)) r ∙ beyond_itself kind (at s i)))
        go false e r = r

  beyond_unreached : (v : Float) → beyond kind (unreached kind) v ≡ false
  unfolding lt
  beyond_unreached v = go kind v
    where
      go : (kind : Extremum) (v : Float) → beyond kind (unreached kind) v ≡ false
      go Max nan = refl
      go Max (inf true) = refl
      go Max (inf false) = refl
      go Max (fin s m e) = refl
      go Min nan = refl
      go Min (inf s) = refl
      go Min (fin s m e) = refl

-- ---- the first best frame
some_none : (t : ℕ → Bool) (i k : ℕ) → some_frame t i k ≡ false → (j : ℕ) → i ≤ j → j < i + k → t j ≡ false
some_none t i k e j p q = not_holds (t j) (λ h. true≢false (sym (some_at t i k j p q h) ∙ e))

module _ (kind : Extremum) (s : List Float) (a b : ℕ) (h : a ≤ b) (l : b < length s) where
  far : Float
  far = furthest kind (slice a (b + 1) s)

  unbeaten_by : (i : ℕ) → unbeaten kind s a b i ≡ not (beyond kind (furthest kind (slice a (b + 1) s)) (at s i))
  unfolding furthest
  unbeaten_by i =
      let e : a + (b + 1 - a) ≡ b + 1 = omega arith in
      let some = some_frame (λ k. beyond kind (at s k) (at s i)) a (b + 1 - a) in
      let c : beyond kind (best_of (beyond kind) (unreached kind) (slice a (b + 1) s)) (at s i) ≡ some =
      ap (λ (n : ℕ). beyond kind (best_of (beyond kind) (unreached kind) (slice a n s)) (at s i)) (sym e)
      ∙ beyond_some kind s (at s i) (unreached kind) a (b + 1 - a) (omega arith) (unreached_number kind)
      ∙ ap (λ (d : Bool). d || some) (beyond_unreached kind (at s i)) in
      ap not (sym c)

  -- as a walk tests it that has found the furthest value
  pub unbeaten_test : (i : ℕ) {m : Float} {r : Bool} → m ≡ furthest kind (slice a (b + 1) s) → r ≡ beyond kind m (at s i) → unbeaten kind s a b i ≡ not r
  unbeaten_test i e d = unbeaten_by i ∙ ap not (sym (d ∙ ap (λ (z : Float). beyond kind z (at s i)) e))

  first_best_lem : First (unbeaten kind s a b) a (b - a) (first_best kind s a b)
  unfolding first_best
  first_best_lem = first_is (unbeaten kind s a b) a (b - a)

  pub best_within : (a ≤ first_best kind s a b) × (first_best kind s a b ≤ b)
  best_within = (first_best_lem.low, omega (arith, first_best_lem.high))

  beaten : (i : ℕ) → unbeaten kind s a b i ≡ false → beyond kind far (at s i) ≡ true
  unfolding far
  beaten i e = not-false _ (sym (unbeaten_by i) ∙ e)

  -- were it beaten, it would be the last frame, and every frame beaten
  none_left : unbeaten kind s a b (first_best kind s a b) ≡ false → far ≡ unreached kind
  unfolding far furthest
  none_left e =
      let r = first_best kind s a b in
      let last : r ≡ b = ⊎_elim (λ d. d) (λ d. absurd (true≢false (sym (first_best_lem.here (omega arith)) ∙ e))) (eq-or-lt_of_le best_within.1) in
      let n : a + (b + 1 - a) ≡ b + 1 = omega arith in
      all_beaten kind s far (unreached kind) a (b + 1 - a) (omega arith) (ap (λ (z : ℕ). best_of (beyond kind) (unreached kind) (slice a z s)) (sym n))
      (λ j p q.
      let c : j ≤ r = omega arith in
      ⊎_elim (λ d. beaten j (ap (unbeaten kind s a b) d ∙ e)) (λ d. beaten j (first_best_lem.before j p d)) (eq-or-lt_of_le c))

  best_passes : unbeaten kind s a b (first_best kind s a b) ≡ true
  best_passes = go (unbeaten kind s a b (first_best kind s a b)) refl
    where
      go : (c : Bool) → unbeaten kind s a b (first_best kind s a b) ≡ c → c ≡ true
      go true e = refl
      go false e =
          absurd (true≢false (sym (beaten (first_best kind s a b) e) ∙ ap (λ (z : Float). beyond kind z (at s (first_best kind s a b))) (none_left e) ∙ beyond_unreached kind (at s (first_best kind s a b))))

  -- no frame from a to b is beyond the first best one
  pub best_unbeaten : (k : ℕ) → a ≤ k → k ≤ b → beyond kind (at s k) (at s (first_best kind s a b)) ≡ false
  best_unbeaten k p q = some_none _ a (b + 1 - a) (not-true _ best_passes) k p (omega arith)

  -- each one before it is beaten by it
  pub best_first : is_nan (at s (first_best kind s a b)) ≡ false → (k : ℕ) → a ≤ k → k < first_best kind s a b → beyond kind (at s (first_best kind s a b)) (at s k) ≡ true
  unfolding far
  best_first n k p q = beyond_from kind far (at s (first_best kind s a b)) (at s k) n (not-true _ (sym (unbeaten_by (first_best kind s a b)) ∙ best_passes)) (beaten k (first_best_lem.before k p q))

-- ---- the middle of its flat stretch, cut
pub middle_within : (kind : Extremum) (s : List Float) (a b : ℕ) → a ≤ b → b < length s → (a ≤ extremum_middle kind s a b) × (extremum_middle kind s a b ≤ b)
unfolding extremum_middle
middle_within kind s a b h l =
    let r = first_best kind s a b in
    let w : (a ≤ r) × (r ≤ b) = best_within kind s a b h l in
    let f = first_is (changes_after s) r (b - r) in
    (omega (arith, f.low), omega (arith, f.low, f.high))

pub middle_is : (kind : Extremum) (s : List Float) (a b best last : ℕ) → best ≡ first_best kind s a b → last ≡ flat_last s best (b - best) → middle best last ≡ extremum_middle kind s a b
unfolding extremum_middle
middle_is kind s a b best last e d = ap (middle best) d ∙ ap (λ (i : ℕ). middle i (flat_last s i (b - i))) e
