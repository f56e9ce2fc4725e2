-- A search through runs for the nearest to a frame (`Searching`); and that `run_of` finds the nearest of the runs up to 2 frames away, of two as near the first (`run_of_answers`).
-- Assumes nothing.
use Prim.Native.Nat.{ℕ, zero, suc, ◌+◌, ◌≤◌, ◌<◌}
use native.Mathlib.Omega.{arith}
use mathlib.Core.Path.{◌≡◌, refl, sym, subst, ◌∙◌}
use mathlib.Core.Bool.{Bool, true, false, cond}
use mathlib.Core.List.{List, [], ◌∷◌, ◌++◌, append_assoc, append-nil}
use lib.Dec.{eqb}
use lib.ListN.{length, drop, length-append, drop_of_length-le}
use borrow.Author.Tests.{eqb-true, eqb-false, ne_eqb}
use Rattle.lists.specs.By.{Each}
use Rattle.lists.proofs.Entries.{each_map, each_all, each_append}
use Rattle.runs.specs.declared.near.Found.{Found}
use Rattle.std.specs.Prelude.{Option, None, Some}
use Rattle.runs.specs.declared.voiced.Span.{Span}
use Rattle.runs.specs.Near.{distance, at_number, away_by, ◌or_else◌, run_of, Answers}

-- of runs, numbered from k, the first of the nearest to a frame, if it is less than d frames away
abbrev nearer_than : ℕ → ℕ → ℕ → List Span → Option Found
nearer_than zero at k rs = None
nearer_than (suc d) at k rs = nearer_than d at k rs or_else away_by d at k rs

-- ---- one run more
else_nothing : (x : Option Found) → x or_else None ≡ x
else_nothing (Some f) = refl
else_nothing None = refl

else_found : (x y : Option Found) (f : Found) → x or_else Some f or_else y ≡ x or_else Some f
else_found (Some g) y f = refl
else_found None y f = refl

module _ (at k : ℕ) where
  nothing_near : (d : ℕ) → nearer_than d at k [] ≡ None
  unfolding away_by
  nothing_near zero = refl
  nothing_near (suc d) = rw (nothing_near d)

  module _ (r : Span) (rs : List Span) where
    not_nearer : (d : ℕ) → d ≤ distance r at → nearer_than d at k (r ∷ rs) ≡ nearer_than d at (k + 1) rs
    unfolding away_by
    not_nearer zero h = refl
    not_nearer (suc d) h = rw (not_nearer d (omega arith), ne_eqb (distance r at) d (omega arith))

    -- a later run that is nearer than r, or else r
    abbrev nearer_or_this : Option Found
    nearer_or_this = nearer_than (distance r at) at (k + 1) rs or_else Some (at_number k r)

    stays : (y : Option Found) → nearer_or_this or_else y ≡ nearer_or_this
    stays y = else_found (nearer_than (distance r at) at (k + 1) rs) y (at_number k r)

    nearer : (d : ℕ) → distance r at < d → nearer_than d at k (r ∷ rs) ≡ nearer_or_this
    unfolding away_by
    nearer zero h = absurd (omega arith)
    nearer (suc d) h = go (eqb (distance r at) d) refl (nearer d)
      where
        go : (b : Bool) → eqb (distance r at) d ≡ b → (distance r at < d → nearer_than d at k (r ∷ rs) ≡ nearer_or_this) →
            nearer_than d at k (r ∷ rs) or_else cond b (Some (at_number k r)) (away_by d at (k + 1) rs) ≡ nearer_or_this
        go true e before = let q = eqb-true (distance r at) d e in rw (not_nearer d (omega arith), q)
        go false e before = rw (before (omega (arith, eqb-false (distance r at) d e))) (stays (away_by d at (k + 1) rs))

-- ---- the search
module _ (at : ℕ) (rs : List Span) where
  -- what the runs from the k-th on have nearer than d, or else the best so far, is what is found
  pub record Searching (best : Option Found) (d k : ℕ) : Type 0 where
    pub same : nearer_than d at k (drop k rs) or_else best ≡ run_of rs at

  pub searching_start : Searching None 3 0
  unfolding run_of
  searching_start = record { same = else_nothing (nearer_than 3 at 0 rs) }

  module _ {best : Option Found} {d k : ℕ} (r : Span) (e : drop k rs ≡ r ∷ drop (k + 1) rs) (s : Searching best d k) where
    step : nearer_than d at k (r ∷ drop (k + 1) rs) or_else best ≡ run_of rs at
    step = rw e at s.same

    pub searching_nearer : distance r at < d → Searching (Some (at_number k r)) (distance r at) (k + 1)
    searching_nearer h = record { same = sym (stays at k r (drop (k + 1) rs) best) ∙ rw (nearer at k r (drop (k + 1) rs) d h) at step }

    pub searching_on : d ≤ distance r at → Searching best d (k + 1)
    searching_on h = record { same = rw (not_nearer at k r (drop (k + 1) rs) d h) at step }

  pub searching_end : {best : Option Found} {d k : ℕ} → length rs ≤ k → Searching best d k → best ≡ run_of rs at
  searching_end {best} {d} {k} h s = rw (drop_of_length-le rs h, nothing_near at k d) at s.same

-- ---- what is found
module _ (at : ℕ) where
  -- what is found among the runs less than d frames away
  abbrev AnswersTo : ℕ → List Span → Option Found → Type 0
  AnswersTo d rs (Some f) = Answers at rs (Some f)
  AnswersTo d rs None = Each (λ s. d ≤ distance s at) rs

  away_answers : (d : ℕ) → d ≤ 2 → (seen rs : List Span) → Each (λ s. d < distance s at) seen → Each (λ s. d ≤ distance s at) rs → AnswersTo (suc d) (seen ++ rs) (away_by d at (length seen) rs)
  unfolding away_by
  away_answers d h seen [] p q = rw append-nil p
  away_answers d h seen (r ∷ rs) p q = go (eqb (distance r at) d) refl (λ g. away_answers d h (seen ++ (r ∷ [])) rs (each_append (λ s. d < distance s at) seen (r ∷ []) p (g, tt)) q.1)
    where
      go : (b : Bool) → eqb (distance r at) d ≡ b → (d < distance r at → AnswersTo (suc d) ((seen ++ (r ∷ [])) ++ rs) (away_by d at (length (seen ++ (r ∷ []))) rs)) →
          AnswersTo (suc d) (seen ++ (r ∷ rs)) (cond b (Some (at_number (length seen) r)) (away_by d at (length seen + 1) rs))
      go true e later =
          let m = eqb-true (distance r at) d e in
          record {
            earlier = seen;
            later = rs;
            split = refl;
            index = refl;
            near = omega arith;
            farther = each_map (λ s. d < distance s at) (λ s. distance r at < distance s at) (λ s g. omega arith) seen p;
            no_nearer = each_map (λ s. d ≤ distance s at) (λ s. distance r at ≤ distance s at) (λ s g. omega arith) rs q.1;
          }
      go false e later = rw (append_assoc seen (r ∷ []) rs, length-append seen (r ∷ [])) at (later (omega (arith, q.0, eqb-false (distance r at) d e)))

  near_answers : (d : ℕ) → d ≤ 3 → (rs : List Span) → AnswersTo d rs (nearer_than d at 0 rs)
  near_answers zero h rs = each_all (λ s. 0 ≤ distance s at) (λ s. omega arith) rs
  near_answers (suc d) h rs = go (nearer_than d at 0 rs) (near_answers d (omega arith) rs)
    where
      go : (x : Option Found) → AnswersTo d rs x → AnswersTo (suc d) rs (x or_else away_by d at 0 rs)
      go (Some f) a = a
      go None a = away_answers d (omega arith) [] rs tt a

  pub run_of_answers : (rs : List Span) → Answers at rs (run_of rs at)
  unfolding run_of
  run_of_answers rs = go (nearer_than 3 at 0 rs) (near_answers 3 (omega arith) rs)
    where
      go : (x : Option Found) → AnswersTo 3 rs x → Answers at rs x
      go (Some f) a = a
      go None a = a

-- what holds of every run holds of the one that is found
pub found_each : (P : Span → Type 0) (rs : List Span) (at : ℕ) (f : Found) → Each P rs → Answers at rs (Some f) → P f.run
found_each P rs at f e a = middle a.earlier (subst (Each P) a.split e)
  where
    middle : (earlier : List Span) → Each P (earlier ++ (f.run ∷ a.later)) → P f.run
    middle [] h = h.0
    middle (r ∷ rs) h = middle rs h.1
