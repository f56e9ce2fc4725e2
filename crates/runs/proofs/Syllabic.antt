-- Each syllable run is a union of long runs (`syllable_unions`), and the dropouts are the gaps inside syllable runs (`syllables_and_dropouts`, `dropout_inside`).
-- Then the turns of the walks over runs: the syllable runs one after the other (`Joining`), and the dropouts (`Gapping`). Assumes nothing.
use Prim.Native.Nat.{ℕ, suc, ◌+◌, ◌*◌, ◌≤◌, ◌<◌}
use native.Mathlib.Omega.{arith}
use mathlib.Core.Path.{◌≡◌, refl, sym, ap, subst, ◌∙◌}
use mathlib.Core.Bool.{Bool, true, false, not, cond}
use mathlib.Core.List.{List, [], ◌∷◌, ◌++◌, append-nil}
use mathlib.Core.Logic.{inl, inr}
use lib.ListN.{length, get_or, take, drop}
use lib.Ieee.{Float}
use Rattle.lists.specs.Results.{cons_if, filter}
use Rattle.lists.specs.By.{Each, Some}
use Rattle.lists.proofs.Entries.{each_map}
use Rattle.lists.specs.Grouped.{attach, grouped, Unions}
use Rattle.runs.specs.declared.voiced.Span.{Span}
use Rattle.runs.specs.Runs.{long_runs, InTrack, Spaced}
use Rattle.runs.specs.Syllables.{breaks_from, unbroken, across, syllables_of, syllable_runs, gap, gaps, dropouts_of, dropouts}
use Rattle.lists.proofs.Grouping.{Joins, attach_join, attach_cut, grouped_unions}
use Rattle.runs.proofs.Spacing.{grouped_spaced, long_spaced, long_few}
use Rattle.lists.proofs.Windows.{FirstTwo, first_two}
use Rattle.runs.proofs.Pushing.{push_room, push_on}

-- ---- one syllable run
module _ (pitch : List Float) where
  spans_join : Joins (unbroken pitch) across
  spans_join = record { assoc = λ x y z. refl; before = λ x y z. refl; after = λ x y z. refl }

  pub syllable_unions : Unions (unbroken pitch) across (long_runs pitch) (syllable_runs pitch)
  unfolding syllable_runs syllables_of
  syllable_unions = grouped_unions (unbroken pitch) across spans_join (long_runs pitch)

  -- ---- each run but the first of all begins a syllable run or ends a dropout
  same_gaps : (r s : Span) (rs : List Span) → dropouts_of pitch (across r s ∷ rs) ≡ dropouts_of pitch (s ∷ rs)
  unfolding dropouts_of gaps filter
  same_gaps r s [] = refl
  same_gaps r s (t ∷ rs) = refl

  count_from : (r : Span) (rs : List Span) → length (syllables_of pitch (r ∷ rs)) + length (dropouts_of pitch (r ∷ rs)) ≡ suc (length rs)
  unfolding syllables_of grouped attach dropouts_of gaps filter
  count_from r [] = refl
  count_from r (s ∷ rs) = go (breaks_from pitch r.last s.first) refl (count_from s rs) (count_from (across r s) rs)
    where
      go : (b : Bool) → breaks_from pitch r.last s.first ≡ b → length (syllables_of pitch (s ∷ rs)) + length (dropouts_of pitch (s ∷ rs)) ≡ suc (length rs) →
          length (syllables_of pitch (across r s ∷ rs)) + length (dropouts_of pitch (across r s ∷ rs)) ≡ suc (length rs) →
          length (attach (unbroken pitch) across r (syllables_of pitch (s ∷ rs))) + length (cons_if (not b) (gap r s) (dropouts_of pitch (s ∷ rs))) ≡ suc (suc (length rs))
      go true e apart one =
          let a = ap length (attach_cut (unbroken pitch) across spans_join r s rs (rw e)) in
          omega (arith, a, apart)
      go false e apart one =
          let a = ap length (attach_join (unbroken pitch) across spans_join r s rs (rw e)) in
          omega (arith, a, one, ap length (same_gaps r s rs))

  pub syllables_and_dropouts : (rs : List Span) → length (syllables_of pitch rs) + length (dropouts_of pitch rs) ≡ length rs
  unfolding syllables_of grouped dropouts_of gaps filter
  syllables_and_dropouts [] = refl
  syllables_and_dropouts (r ∷ rs) = count_from r rs

  pub dropout_few : 4 * length (dropouts pitch) ≤ length pitch + 3
  unfolding dropouts
  dropout_few = omega (arith, syllables_and_dropouts (long_runs pitch), long_few pitch)

  -- ---- each dropout lies inside a syllable run
  abbrev Around : Span → Span → Type 0
  Around g s = (s.first ≤ g.first) × (g.last ≤ s.last)

  around_first : (lo n : ℕ) (r : Span) (rs : List Span) (g : Span) → Spaced lo n (r ∷ rs) → Around g r → Some (Around g) (syllables_of pitch (r ∷ rs))
  unfolding syllables_of grouped attach
  around_first lo n r rs g s a = go (syllables_of pitch rs) (grouped_spaced pitch (r.last + 4) n rs s.3)
    where
      go : (gs : List Span) → Spaced (r.last + 4) n gs → Some (Around g) (attach (unbroken pitch) across r gs)
      go [] t = inl a
      go (q ∷ gs) t = pick (unbroken pitch r q)
        where
          pick : (b : Bool) → Some (Around g) (cond b (across r q ∷ gs) (r ∷ q ∷ gs))
          pick true = inl (a.0, omega (arith, a.1, t.0, t.1))
          pick false = inl a

  inside_from : (lo n : ℕ) (r : Span) (rs : List Span) → Spaced lo n (r ∷ rs) → Each (λ g. Some (Around g) (syllables_of pitch (r ∷ rs))) (dropouts_of pitch (r ∷ rs))
  unfolding syllables_of grouped dropouts_of gaps filter
  inside_from lo n r [] s = tt
  inside_from lo n r (q ∷ rs) s =
      go (breaks_from pitch r.last q.first) refl (inside_from (r.last + 4) n q rs s.3) (inside_from lo n (across r q) rs one_spaced)
    where
      one_spaced : Spaced lo n (across r q ∷ rs)
      one_spaced = (s.0, omega (arith, s.1, s.3.0, s.3.1), s.3.2, s.3.3)

      go : (b : Bool) → breaks_from pitch r.last q.first ≡ b → Each (λ g. Some (Around g) (syllables_of pitch (q ∷ rs))) (dropouts_of pitch (q ∷ rs)) →
          Each (λ g. Some (Around g) (syllables_of pitch (across r q ∷ rs))) (dropouts_of pitch (across r q ∷ rs)) →
          Each (λ g. Some (Around g) (attach (unbroken pitch) across r (syllables_of pitch (q ∷ rs)))) (cons_if (not b) (gap r q) (dropouts_of pitch (q ∷ rs)))
      go true e apart one =
          rw (attach_cut (unbroken pitch) across spans_join r q rs (rw e))
          (each_map (λ g. Some (Around g) (syllables_of pitch (q ∷ rs))) (λ g. Some (Around g) (r ∷ syllables_of pitch (q ∷ rs))) (λ g h. inr h) (dropouts_of pitch (q ∷ rs)) apart)
      go false e apart one =
          subst (λ (ss : List Span). Each (λ g. Some (Around g) ss) (gap r q ∷ dropouts_of pitch (q ∷ rs))) (sym (attach_join (unbroken pitch) across spans_join r q rs (rw e)))
          (around_first lo n (across r q) rs (gap r q) one_spaced (s.1, s.3.1), subst (λ (gs : List Span). Each (λ g. Some (Around g) (syllables_of pitch (across r q ∷ rs))) gs) (same_gaps r q rs) one)

  pub dropout_inside : Each (λ g. Some (λ s. (s.first ≤ g.first) × (g.last ≤ s.last)) (syllable_runs pitch)) (dropouts pitch)
  unfolding syllable_runs dropouts dropouts_of gaps filter
  dropout_inside = go (long_runs pitch) (long_spaced pitch)
    where
      go : (rs : List Span) → Spaced 0 (length pitch) rs → Each (λ g. Some (Around g) (syllables_of pitch rs)) (dropouts_of pitch rs)
      go [] s = tt
      go (r ∷ rs) s = inside_from 0 (length pitch) r rs s

  -- ---- the runs that are left come after the syllable runs so far, and `group`, of which the next one may be a part
  pub record Joining (runs left done : List Span) (group : Span) : Type 0 where
    pub within : group.last < length pitch
    pub left_within : InTrack (length pitch) left
    pub whole : done ++ attach (unbroken pitch) across group (syllables_of pitch left) ≡ syllables_of pitch runs

  syllables_few : (runs : List Span) → length (syllables_of pitch runs) ≤ length runs
  syllables_few runs = omega (arith, syllables_and_dropouts runs)

  pub joining_start : (r : Span) (rs : List Span) → InTrack (length pitch) (r ∷ rs) → Joining (r ∷ rs) rs [] r
  unfolding syllables_of grouped
  joining_start r rs w = record { within = w.0.1; left_within = w.1; whole = refl }

  module _ {runs left rest done : List Span} {group : Span} (r : Span) (e : left ≡ r ∷ rest) (j : Joining runs left done group) where
    tracked : InTrack (length pitch) (r ∷ rest)
    tracked = rw e at j.left_within

    whole : done ++ attach (unbroken pitch) across group (syllables_of pitch (r ∷ rest)) ≡ syllables_of pitch runs
    whole = rw e at j.whole

    pub joining_on : breaks_from pitch group.last r.first ≡ false → Joining runs rest done (across group r)
    unfolding syllables_of
    joining_on b = record { within = tracked.0.1; left_within = tracked.1; whole = ap (λ (rs : List Span). done ++ rs) (sym (attach_join (unbroken pitch) across spans_join group r rest (rw b))) ∙ whole }

    module _ (b : breaks_from pitch group.last r.first ≡ true) where
      cut : done ++ (group ∷ syllables_of pitch (r ∷ rest)) ≡ syllables_of pitch runs
      unfolding syllables_of
      cut = ap (λ (rs : List Span). done ++ rs) (sym (attach_cut (unbroken pitch) across spans_join group r rest (rw b))) ∙ whole

      pub joining_room : length done < length runs
      joining_room = push_room _ _ _ cut (length runs) (syllables_few runs)

      pub joining_cut : Joining runs rest (done ++ (group ∷ [])) r
      unfolding syllables_of grouped
      joining_cut = record { within = tracked.0.1; left_within = tracked.1; whole = push_on _ _ _ cut }

  module _ {runs left done : List Span} {group : Span} (e : left ≡ []) (j : Joining runs left done group) where
    pub joining_end : done ++ (group ∷ []) ≡ syllables_of pitch runs
    unfolding syllables_of grouped attach
    joining_end = rw e at j.whole

    pub joining_end_room : length done < length runs
    joining_end_room = push_room _ _ _ joining_end (length runs) (syllables_few runs)

  -- ---- the dropouts so far, and those among the runs that are left, from the one before the next gap on
  module _ (runs : List Span) where
    pub record Gapping (done left : List Span) (size : ℕ) : Type 0 where
      pub two : size ≡ 2
      pub within : InTrack (length pitch) left
      pub whole : done ++ dropouts_of pitch left ≡ dropouts_of pitch runs

    -- the k-th of two neighbours
    abbrev pub of_two : List Span → ℕ → Span
    of_two pair k = get_or pair k (record { first = 0; last = 0 })

    module _ {done left : List Span} {size : ℕ} (g : Gapping done left size) where
      module _ {pair left' : List Span} {size' : ℕ} (s : size' ≡ size) (h : size ≤ length left) (e : pair ≡ take size left) (f : left' ≡ drop 1 left) where
        split : FirstTwo (record { first = 0; last = 0 }) left pair left'
        split = first_two (record { first = 0; last = 0 }) left g.two h e f

        abbrev between : Span
        between = gap (of_two pair 0) (of_two pair 1)

        abbrev kept : Bool
        kept = not (breaks_from pitch between.first between.last)

        rest_within : InTrack (length pitch) left'
        rest_within = rw split.next (subst (InTrack (length pitch)) split.whole g.within).1

        now : done ++ cons_if kept between (dropouts_of pitch left') ≡ dropouts_of pitch runs
        unfolding dropouts_of gaps filter
        now = rw split.next (subst (λ (rs : List Span). done ++ dropouts_of pitch rs ≡ dropouts_of pitch runs) split.whole g.whole)

        here : kept ≡ true → done ++ (between ∷ dropouts_of pitch left') ≡ dropouts_of pitch runs
        here k = rw k at now

        pub gapping_room : kept ≡ true → length done < length runs
        gapping_room k = push_room _ _ _ (here k) (length runs) (omega (arith, syllables_and_dropouts runs))

        pub gapping_yes : kept ≡ true → Gapping (done ++ (between ∷ [])) left' size'
        gapping_yes k = record { two = s ∙ g.two; within = rest_within; whole = push_on _ _ _ (here k) }

        pub gapping_no : kept ≡ false → Gapping done left' size'
        gapping_no k = record { two = s ∙ g.two; within = rest_within; whole = rw k at now }

      pub gapping_end : length left < size → done ≡ dropouts_of pitch runs
      unfolding dropouts_of gaps filter
      gapping_end h = sym (append-nil done) ∙ rw (over left (omega (arith, h, g.two))) at g.whole
        where
          over : (rs : List Span) → length rs < 2 → dropouts_of pitch rs ≡ []
          over [] k = refl
          over (a ∷ []) k = refl
          over (a ∷ b ∷ rs) k = absurd (omega arith)
