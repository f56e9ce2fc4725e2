-- The voiced peaks, each on its run; the runs that frames belong to; the tops of the others: each a step at a time, with how many there are. Assumes nothing.
use Prim.Native.Nat.{ℕ, ◌+◌, ◌-◌, ◌<◌, ◌≤◌}
use native.Mathlib.Omega.{arith}
use mathlib.Core.Path.{◌≡◌, sym, ap, ◌∙◌}
use mathlib.Core.Bool.{Bool, true, false, not}
use mathlib.Core.List.{List, [], ◌∷◌, ◌++◌, map}
use lib.ListN.{length, get_or, drop, length-map, drop_of_length-le}
use lib.Ieee.{Float}
use borrow.Author.Tests.{lt-ltb, le-ltb}
use Rattle.std.specs.Prelude.{is_some, Option, MatchOption}
use Rattle.std.specs.Bool.{then_some}
use Rattle.lists.specs.Results.{cons_if, filter}
use Rattle.lists.specs.Marks.{member}
use Rattle.lists.proofs.Fill.{drop_step, map_cons_if, filter_step, filter_over, filter_le, length_cons_if}
use Rattle.smooth.specs.Extrema.{argmax_middle}
use Rattle.smooth.specs.declared.extrema.Extremum.TheVariants.{Max}
use Rattle.smooth.proofs.Best.{middle_within}
use Rattle.runs.specs.declared.voiced.Span.{Span}
use Rattle.runs.specs.Near.{run_of, number_of}
use Rattle.runs.proofs.Pushing.{push_room, push_on}
use Rattle.region.specs.declared.Bounds.{Bounds}
use Rattle.nuclei.specs.Peaks.{voiced_peak, onto_run, peaks_onto}
use Rattle.nuclei.specs.Tops.{runs_held, unheld_from, part_first, part_end, top_of, stands_alone, has_top, tops_of}

-- ---- a list that gets what passes a test: what it holds, with what is to come, is the whole
module _ {A : Type 0} {whole : List A} (done rest : List A) (b : Bool) (x : A) (e : done ++ cons_if b x rest ≡ whole) where
  -- there is room for one more
  pub pick_room : b ≡ true → {n : ℕ} → length whole ≤ n → length done < n
  pick_room t {n} h = push_room done x rest (rw t at e) n h

  pub pick_yes : b ≡ true → (done ++ (x ∷ [])) ++ rest ≡ whole
  pick_yes t = push_on done x rest (rw t at e)

  pub pick_no : b ≡ false → done ++ rest ≡ whole
  pick_no t = rw t at e

-- what passes, each as something else, is no more than there is
picked_few : {A B : Type 0} (g : A → B) (p : A → Bool) (xs : List A) → length (map g (filter p xs)) ≤ length xs
picked_few g p xs = rw length-map (filter_le p xs)

-- ---- the voiced peaks, each on its run
module _ (s pitch : List Float) (b : Bounds) (rs : List Span) (ps : List ℕ) where
  pub onto_few : length (peaks_onto s pitch b rs ps) ≤ length ps
  unfolding peaks_onto
  onto_few = picked_few (onto_run s b rs) (voiced_peak s pitch b) ps

  pub onto_step : (i : ℕ) → i < length ps → peaks_onto s pitch b rs (drop i ps) ≡ cons_if (voiced_peak s pitch b (get_or ps i 0)) (onto_run s b rs (get_or ps i 0)) (peaks_onto s pitch b rs (drop (i + 1) ps))
  unfolding peaks_onto
  onto_step i h = ap (map (onto_run s b rs)) (filter_step (voiced_peak s pitch b) ps i 0 h) ∙ map_cons_if (onto_run s b rs) (voiced_peak s pitch b (get_or ps i 0)) (get_or ps i 0) (filter (voiced_peak s pitch b) (drop (i + 1) ps))

  pub onto_over : (i : ℕ) → length ps ≤ i → peaks_onto s pitch b rs (drop i ps) ≡ []
  unfolding peaks_onto
  onto_over i h = ap (map (onto_run s b rs)) (filter_over (voiced_peak s pitch b) ps i h)

-- ---- the runs that frames belong to
module _ (rs : List Span) (xs : List ℕ) where
  pub held_few : length (runs_held rs xs) ≤ length xs
  unfolding runs_held
  held_few = omega (arith, picked_few number_of is_some (map (run_of rs) xs), length-map xs (run_of rs))

  pub held_step : (i : ℕ) → i < length xs → runs_held rs (drop i xs) ≡ cons_if (is_some (run_of rs (get_or xs i 0))) (number_of (run_of rs (get_or xs i 0))) (runs_held rs (drop (i + 1) xs))
  unfolding runs_held filter
  held_step i h =
      let x = run_of rs (get_or xs i 0) in
      rw (drop_step xs i 0 h) (map_cons_if number_of (is_some x) x (filter is_some (map (run_of rs) (drop (i + 1) xs))))

  pub held_over : (i : ℕ) → length xs ≤ i → runs_held rs (drop i xs) ≡ []
  unfolding runs_held filter
  held_over i h = rw (drop_of_length-le xs h)

-- ---- the tops of the others
unheld_few : (held : List ℕ) (k : ℕ) (rs : List Span) → length (unheld_from held k rs) ≤ length rs
unfolding unheld_from
unheld_few held k [] = omega arith
unheld_few held k (r ∷ rs) = length_cons_if (not (member held k)) r (unheld_from held (k + 1) rs) (unheld_few held (k + 1) rs)

module _ (s : List Float) (b : Bounds) (dip : Float) (held : List ℕ) (rs : List Span) where
  -- the tops to come from run k on
  abbrev pub to_come : ℕ → List ℕ
  to_come k = tops_of s b dip (unheld_from held k (drop k rs))

  pub come_few : length (to_come 0) ≤ length rs
  unfolding tops_of
  come_few = omega (arith, picked_few (top_of s b) (has_top s b dip) (unheld_from held 0 rs), unheld_few held 0 rs)

  abbrev run_at : ℕ → Span
  run_at k = get_or rs k (record { first = 0; last = 0 })

  module _ (k : ℕ) (h : k < length rs) where
    next : drop k rs ≡ run_at k ∷ drop (k + 1) rs
    next = drop_step rs k (record { first = 0; last = 0 }) h

    pub come_held : member held k ≡ true → to_come k ≡ to_come (k + 1)
    unfolding unheld_from
    come_held e = rw (next, unheld_from, e)

    pub come_unheld : member held k ≡ false → to_come k ≡ cons_if (has_top s b dip (run_at k)) (top_of s b (run_at k)) (to_come (k + 1))
    unfolding unheld_from tops_of filter
    come_unheld e =
        let r = run_at k in
        rw (next, unheld_from, e) (map_cons_if (top_of s b) (has_top s b dip r) r (filter (has_top s b dip) (unheld_from held (k + 1) (drop (k + 1) rs))))

  pub come_over : (k : ℕ) → length rs ≤ k → to_come k ≡ []
  unfolding unheld_from tops_of filter
  come_over k h = rw (drop_of_length-le rs h)

-- ---- the top of a run
module _ (s : List Float) (b : Bounds) (dip : Float) (r : Span) {lo hi : ℕ} (e : lo ≡ part_first b r) (f : hi ≡ part_end b r) where
  pub no_part : hi ≤ lo → has_top s b dip r ≡ false
  unfolding has_top
  no_part h = rw (le-ltb (part_first b r) (part_end b r) (omega arith))

  module _ (h : lo < hi) {top : ℕ} (q : top ≡ argmax_middle s lo (hi - 1)) where
    pub top_is : top ≡ top_of s b r
    unfolding top_of
    top_is = q ∙ rw (e, f)

    pub top_stands : {stands : Bool} → stands ≡ stands_alone s b dip top → stands ≡ has_top s b dip r
    unfolding has_top
    top_stands a = rw (lt-ltb (part_first b r) (part_end b r) (omega arith)) (a ∙ ap (stands_alone s b dip) top_is)

    pub top_chosen : {stands : Bool} → stands ≡ stands_alone s b dip top → {found : Option ℕ} → found ≡ then_some stands top → MatchOption found (has_top s b dip r ≡ false) (λ t. (has_top s b dip r ≡ true) × (t ≡ top_of s b r))
    top_chosen {stands} a e = rw e (go stands (sym (top_stands a)))
      where
        go : (x : Bool) → has_top s b dip r ≡ x → MatchOption (then_some x top) (has_top s b dip r ≡ false) (λ t. (has_top s b dip r ≡ true) × (t ≡ top_of s b r))
        go true h = (h, top_is)
        go false h = h

    pub top_within : b.end ≤ length s → top < length s
    top_within w = omega (arith, middle_within Max s lo (hi - 1) (omega arith) (omega arith), q)
