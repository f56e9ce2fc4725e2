-- The walk over the frames before which a run may split, with the best so far. Assumes nothing.
use Prim.Native.Nat.{ℕ, ◌+◌, ◌-◌, ◌<◌, ◌≤◌}
use native.Mathlib.Omega.{arith}
use mathlib.Core.Path.{◌≡◌, refl, sym, ap, subst, ◌∙◌}
use mathlib.Core.Bool.{Bool, true, false, ◌&&◌, cond, and-false}
use mathlib.Core.List.{List, [], ◌∷◌, foldl}
use lib.Dec.{leb}
use lib.Ieee.{Float, le}
use borrow.Author.Tests.{leb-true, le-leb, lt-leb}
use Rattle.lists.specs.Results.{cons_if, keep}
use Rattle.lists.specs.By.{Each}
use Rattle.lists.proofs.Tests.{and_cases}
use Rattle.lists.proofs.Fill.{keep_step, keep_over, keep_pass}
use Rattle.lists.proofs.Entries.{each_map}
use Rattle.lists.proofs.Members.{each_keep}
use Rattle.std.specs.Prelude.{Option, None, Some}
use Rattle.runs.specs.declared.voiced.Span.{Span}
use Rattle.extra.specs.Split.{fifth, change, abs_diff, may_split, heavier, split_of}

-- ---- the best split so far
-- what the next change must reach
abbrev pub to_reach : (ℕ → Float) → Option ℕ → Float
to_reach weight None = fifth
to_reach weight (Some j) = weight j

heavier_is : (weight : ℕ → Float) (best : Option ℕ) (k : ℕ) → le fifth (weight k) ≡ true → heavier weight best k ≡ cond (le (to_reach weight best) (weight k)) (Some k) best
heavier_is weight None k e = rw e
heavier_is weight (Some j) k e = refl

module _ (son : List Float) (r : Span) (nucleus : ℕ) where
  -- best is the best split before frame k, and most its change
  pub record Cutting (best : Option ℕ) (most : Float) (k : ℕ) : Type 0 where
    pub from : r.first + 6 ≤ k
    pub change_of : most ≡ to_reach (change son) best
    pub same : foldl (heavier (change son)) best (keep (may_split son r nucleus) k (r.last + 1 - k)) ≡ split_of son r nucleus

  pub cut_start : Cutting None fifth (r.first + 6)
  unfolding split_of may_split
  cut_start = record {
    from = omega arith;
    change_of = refl;
    same = ap (foldl (heavier (change son)) None) (sym (keep_pass (may_split son r nucleus) r.first 6 (r.last + 1) (λ j a b. rw (lt-leb 6 (j - r.first) (omega arith)))));
  }

  module _ {best : Option ℕ} {most : Float} {k : ℕ} (c : Cutting best most k) where
    -- far enough from the nucleus, with a change of at least 0.2
    abbrev fair : Bool
    fair = leb 3 (abs_diff k nucleus) && le fifth (change son k)

    module _ (h : k + 6 ≤ r.last + 1) where
      fair_is : may_split son r nucleus k ≡ fair
      unfolding may_split
      fair_is = rw (le-leb 6 (k - r.first) (omega (arith, c.from)), le-leb 6 (r.last + 1 - k) (omega arith))

      step : foldl (heavier (change son)) best (cons_if fair k (keep (may_split son r nucleus) (k + 1) (r.last + 1 - (k + 1)))) ≡ split_of son r nucleus
      step = rw (keep_step (may_split son r nucleus) k (r.last + 1) (omega arith), fair_is) at c.same

      large : fair ≡ true → le fifth (change son k) ≡ true
      large e = (and_cases (leb 3 (abs_diff k nucleus)) (le fifth (change son k)) e).1

      next : fair ≡ true → heavier (change son) best k ≡ cond (le most (change son k)) (Some k) best
      next e = heavier_is (change son) best k (large e) ∙ ap (λ (x : Float). cond (le x (change son k)) (Some k) best) (sym c.change_of)

      pub cut_yes : (fair && le most (change son k)) ≡ true → Cutting (Some k) (change son k) (k + 1)
      cut_yes e =
          let p = and_cases fair (le most (change son k)) e in
          record {
            from = omega (arith, c.from);
            change_of = refl;
            same = ap (λ (x : Option ℕ). foldl (heavier (change son)) x (keep (may_split son r nucleus) (k + 1) (r.last + 1 - (k + 1)))) (sym (next p.0 ∙ ap (λ (b : Bool). cond b (Some k) best) p.1)) ∙ (rw p.0 at step);
          }

      pub cut_no : (fair && le most (change son k)) ≡ false → Cutting best most (k + 1)
      cut_no e = record { from = omega (arith, c.from); change_of = c.change_of; same = go fair refl }
        where
          rest : List ℕ
          rest = keep (may_split son r nucleus) (k + 1) (r.last + 1 - (k + 1))

          go : (b : Bool) → fair ≡ b → foldl (heavier (change son)) best rest ≡ split_of son r nucleus
          go true q =
              let n : le most (change son k) ≡ false = rw q at e in
              ap (λ (x : Option ℕ). foldl (heavier (change son)) x rest) (sym (next q ∙ ap (λ (b : Bool). cond b (Some k) best) n)) ∙ (rw q at step)
          go false q = rw q at step

    pub cut_end : r.last + 1 < k + 6 → best ≡ split_of son r nucleus
    unfolding may_split
    cut_end h =
        let n = r.last + 1 in
        let t = may_split son r nucleus in
        let e : keep t k (n - k) ≡ keep t (k + (n - k)) (n - (k + (n - k))) = keep_pass t k (n - k) n (λ j a b. rw (lt-leb 6 (n - j) (omega arith)) (and-false (leb 6 (j - r.first)))) in
        ap (foldl (heavier (change son)) best) (sym (e ∙ keep_over t (k + (n - k)) n (omega arith))) ∙ c.same

-- ---- where a run splits
module _ (son : List Float) (r : Span) (nucleus : ℕ) where
  -- what a best split may be
  abbrev Allowed : Option ℕ → Type 0
  Allowed None = Unit
  Allowed (Some k) = may_split son r nucleus k ≡ true

  heavier_allowed : (best : Option ℕ) (k : ℕ) → Allowed best → may_split son r nucleus k ≡ true → Allowed (heavier (change son) best k)
  heavier_allowed None k a e = e
  heavier_allowed (Some j) k a e = go (le (change son j) (change son k))
    where
      go : (b : Bool) → Allowed (cond b (Some k) (Some j))
      go true = e
      go false = a

  fold_allowed : (best : Option ℕ) (ks : List ℕ) → Allowed best → Each (λ k. may_split son r nucleus k ≡ true) ks → Allowed (foldl (heavier (change son)) best ks)
  fold_allowed best [] a e = a
  fold_allowed best (k ∷ ks) a e = fold_allowed (heavier (change son) best k) ks (heavier_allowed best k a e.0) e.1

  split_allowed : Allowed (split_of son r nucleus)
  unfolding split_of
  split_allowed =
      let t = may_split son r nucleus in
      let n = r.last + 1 - r.first in
      fold_allowed None (keep t r.first n) tt (each_map (λ k. (r.first ≤ k) × (k < r.first + n) × (t k ≡ true)) (λ k. t k ≡ true) (λ k h. h.2) (keep t r.first n) (each_keep t r.first n))

  -- 6 frames or more each side
  pub split_within : {k : ℕ} → split_of son r nucleus ≡ Some k → (r.first + 6 ≤ k) × (k + 5 ≤ r.last)
  unfolding may_split
  split_within {k} e =
      let a = and_cases (leb 6 (k - r.first)) (leb 6 (r.last + 1 - k) && (leb 3 (abs_diff k nucleus) && le fifth (change son k))) (subst Allowed e split_allowed) in
      let b = and_cases (leb 6 (r.last + 1 - k)) (leb 3 (abs_diff k nucleus) && le fifth (change son k)) a.1 in
      (omega (arith, leb-true 6 (k - r.first) a.0), omega (arith, leb-true 6 (r.last + 1 - k) b.0))
