-- Of any region longer than 2 frames: the boundaries rise from its start to its end, any two over 2 frames apart; they are few; each joint strictly inside has
-- one within 2 frames. Assumes nothing.
use Prim.Native.Nat.{ℕ, ◌+◌, ◌-◌, ◌*◌, ◌≤◌, ◌<◌}
use native.Mathlib.Omega.{arith}
use mathlib.Core.Path.{◌≡◌, refl, sym, ap, subst}
use mathlib.Core.Bool.{Bool, true, false, not, ◌&&◌, false≢true}
use mathlib.Core.List.{List, [], ◌∷◌, ◌++◌, map, map-map}
use mathlib.Core.Logic.{inl, inr, ⊎_elim}
use lib.ListN.{length}
use lib.Dec.{ltb, leb, eqb}
use lib.Ieee.{Float}
use borrow.Author.Tests.{ne_eqb, leb-true, ltb-true}
use Rattle.lists.specs.Results.{cons_if, filter}
use Rattle.lists.specs.By.{Each, Some, Pairs}
use Rattle.lists.specs.Sorted.{sorted, Rises}
use Rattle.lists.specs.Marks.{member}
use Rattle.lists.specs.Candidates.{Candidate, in_turn}
use Rattle.lists.proofs.Tests.{and_cases, or_cases, or_right}
use Rattle.lists.proofs.Entries.{each_map, each_append, each_filter, each_of_map}
use Rattle.lists.proofs.Members.{member_first}
use Rattle.lists.proofs.Ordered.{each_sort, some_sort, pairs_sort, length_sort}
use Rattle.lists.proofs.Sorting.{rises_sorted}
use Rattle.lists.proofs.Turns.{turn_each}
use Rattle.smooth.specs.Level.{levels}
use Rattle.smooth.specs.Extrema.{inside, local_extrema}
use Rattle.smooth.specs.declared.extrema.Extremum.TheVariants.{Min}
use Rattle.region.specs.Speech.{speech_at, threshold_of, last_of}
use Rattle.region.specs.declared.Settings.{Settings}
use Rattle.region.specs.declared.Bounds.{Bounds}
use Rattle.runs.specs.declared.voiced.Span.{Span}
use Rattle.runs.specs.Syllables.{syllable_runs}
use Rattle.boundaries.specs.Keeping.{add_all}
use Rattle.boundaries.specs.Joints.{joints_inside}
use Rattle.boundaries.specs.Edges.{between, changed, loud_beside, pause_edge, pause_edges, voicing_edges}
use Rattle.boundaries.specs.Minima.{minimum, in_long_span, minima}
use Rattle.boundaries.specs.Boundaries.{cap_of, chosen, boundaries_in, creaky, boundaries_of}
use Rattle.boundaries.specs.Promises.{RisesFrom, Reaches, Near, Promised, pauses_at, pauses_in, most_boundaries}
use Rattle.boundaries.proofs.Adding.{Far, Close, far_sym, add_append, add_each, add_some, add_few, add_pairs, add_near}
use Rattle.boundaries.proofs.Turns.{In, pauses_in_lem, voicings_in}
use Rattle.boundaries.proofs.Jointly.{joints_in, inside_few}

-- ---- a list that is sorted
rises_from : (x : ℕ) (l : List ℕ) → Rises (x ∷ l) → Pairs Far (x ∷ l) → RisesFrom x l
rises_from x [] h p = tt
rises_from x (y ∷ l) h p = (⊎_elim (λ g. g) (λ g. omega (arith, h.0.0)) p.0.0, rises_from y l h.1 p.1)

first_is : (start x : ℕ) (l : List ℕ) → start ≤ x → Each (λ y. x ≤ y) l → Some (λ k. k ≡ start) (x ∷ l) → x ≡ start
first_is start x l h e (inl p) = p
first_is start x l h e (inr q) = go l e q
  where
    go : (l : List ℕ) → Each (λ y. x ≤ y) l → Some (λ k. k ≡ start) l → x ≡ start
    go [] e q = absurd q
    go (y ∷ l) e (inl p) = omega (arith, e.0)
    go (y ∷ l) e (inr q) = go l e.1 q

last_is : (end x : ℕ) (l : List ℕ) → RisesFrom x l → Each (λ y. y ≤ end) l → Some (λ k. k ≡ end) (x ∷ l) → last_of x l ≡ end
last_is end x [] r e (inl p) = p
last_is end x [] r e (inr q) = absurd q
last_is end x (y ∷ l) r e (inl p) = absurd (omega (arith, r.0, e.0))
last_is end x (y ∷ l) r e (inr q) = last_is end y l r.1 e.1 q

reaches : (start end : ℕ) (l : List ℕ) → Pairs Far l → Each (In start end) l → Some (λ k. k ≡ start) l → Some (λ k. k ≡ end) l → Reaches start end (sorted l)
reaches start end l p i s e =
    go (sorted l) (rises_sorted l) (pairs_sort leb Far far_sym l p) (each_sort leb (In start end) l i) (some_sort leb (λ k. k ≡ start) l s) (some_sort leb (λ k. k ≡ end) l e)
  where
    go : (l : List ℕ) → Rises l → Pairs Far l → Each (In start end) l → Some (λ k. k ≡ start) l → Some (λ k. k ≡ end) l → Reaches start end l
    go [] r p i s e = absurd s
    go (x ∷ l) r p i s e =
        (first_is start x l i.0.0 r.0 s, last_is end x l (rises_from x l r p) (each_map (In start end) (λ y. y ≤ end) (λ y h. h.1) l i.1) e, rises_from x l r p)

-- ---- whatever the candidates are, as long as they lie in the region and there is room for the joints
module _ (cap start end : ℕ) (js rest : List ℕ) (mins : List ℕ → List ℕ) (wide : start + 2 < end) (room : 2 + length js ≤ cap)
    (injs : Each (In start end) js) (inrest : Each (In start end) rest) (inmins : (l : List ℕ) → Each (In start end) l → Each (In start end) (mins l)) where
  abbrev two : List ℕ
  two = start ∷ end ∷ []

  abbrev kept : List ℕ
  kept = add_all cap two (js ++ rest)

  abbrev last : List ℕ
  last = add_all cap kept (mins (sorted kept))

  chosen_is : chosen cap start end (js ++ rest) mins ≡ sorted last
  unfolding chosen
  chosen_is = rw (ne_eqb start end (λ e. omega arith))

  in_kept : Each (In start end) kept
  in_kept = add_each cap (In start end) two (js ++ rest) ((omega arith, omega arith), ((omega arith, omega arith), tt)) (each_append (In start end) js rest injs inrest)

  in_last : Each (In start end) last
  in_last = add_each cap (In start end) kept (mins (sorted kept)) in_kept (inmins (sorted kept) (each_sort leb (In start end) kept in_kept))

  pairs_last : Pairs Far last
  pairs_last = add_pairs cap Far (λ a b h. h) kept (mins (sorted kept)) (add_pairs cap Far (λ a b h. h) two (js ++ rest) ((inl wide, tt), (tt, tt)))

  few_last : length last ≤ cap
  few_last = add_few cap kept (mins (sorted kept)) (add_few cap two (js ++ rest) (omega arith))

  some_last : (P : ℕ → Type 0) → Some P (add_all cap two js) → Some P last
  some_last P h = add_some cap P kept (mins (sorted kept)) (subst (Some P) (sym (add_append cap two js rest)) (add_some cap P (add_all cap two js) rest h))

  some_ends : (P : ℕ → Type 0) → Some P two → Some P last
  some_ends P h = some_last P (add_some cap P two js h)

  chosen_reaches : Reaches start end (chosen cap start end (js ++ rest) mins)
  chosen_reaches = subst (Reaches start end) (sym chosen_is) (reaches start end last pairs_last in_last (some_ends (λ k. k ≡ start) (inl refl)) (some_ends (λ k. k ≡ end) (inr (inl refl))))

  chosen_few : length (chosen cap start end (js ++ rest) mins) ≤ cap
  chosen_few = omega (arith, ap length chosen_is, length_sort leb last, few_last)

  chosen_near : Each (λ j. Near j (chosen cap start end (js ++ rest) mins)) js
  chosen_near =
      each_map (λ j. Near j (add_all cap two js)) (λ j. Near j (chosen cap start end (js ++ rest) mins))
      (λ j h. subst (Near j) (sym chosen_is) (some_sort leb (Close j) last (some_last (Close j) h))) js (add_near cap two js room)

-- ---- minima lie in the region
module _ (start end : ℕ) where
  long_in : (kept : List ℕ) (i : ℕ) → Each (In start end) kept → in_long_span kept i ≡ true → In start end i
  unfolding in_long_span
  long_in [] i h e = absurd (false≢true e)
  long_in (a ∷ []) i h e = absurd (false≢true e)
  long_in (a ∷ b ∷ bs) i h e =
      ⊎_elim
      (λ p. let c = and_cases (leb (a + 1) i) (ltb i b) (and_cases (ltb 35 (b - a)) (inside (a + 1) b i) p).1 in (omega (arith, h.0.0, leb-true (a + 1) i c.0), omega (arith, h.1.0.1, ltb-true i b c.1)))
      (λ q. long_in (b ∷ bs) i h.1 q)
      (or_cases (ltb 35 (b - a) && inside (a + 1) b i) (in_long_span (b ∷ bs) i) e)

  minima_in : (s : List Float) (skip : ℕ → Bool) (kept : List ℕ) → Each (In start end) kept → Each (In start end) (in_turn (minima s skip kept))
  unfolding minima
  minima_in s skip kept h =
      let test : ℕ → Bool = λ i. in_long_span kept i && not (skip i) in
      let all = local_extrema s 0 (length s) Min in
      turn_each (In start end) (map (minimum s) (filter test all))
      (each_of_map (λ c. In start end c.frame) (minimum s) (filter test all)
      (each_map (λ i. test i ≡ true) (In start end) (λ i e. long_in kept i h (and_cases (in_long_span kept i) (not (skip i)) e).0) (filter test all) (each_filter test all)))

-- ---- of any level and threshold
promised_in : (db level pitch voicing : List Float) (b : Bounds) (dip : Float) (nuclei : List ℕ) → b.start + 2 < b.end →
    Promised b.start b.end nuclei (joints_inside level (syllable_runs pitch) dip b.start b.end nuclei) (boundaries_in db level pitch voicing b dip nuclei)
unfolding boundaries_in
promised_in db level pitch voicing b dip nuclei wide =
    let start = b.start in
    let end = b.end in
    let skip = creaky db pitch b.threshold in
    let js = joints_inside level (syllable_runs pitch) dip start end nuclei in
    let ps = in_turn (pause_edges db b.threshold start end) in
    let vs = in_turn (voicing_edges pitch voicing skip start end) in
    let mins : List ℕ → List ℕ = λ l. in_turn (minima level skip l) in
    let room : 2 + length js ≤ cap_of nuclei = more (length js) (length nuclei) (inside_few level (syllable_runs pitch) dip start end nuclei) in
    let injs = joints_in level (syllable_runs pitch) dip start end nuclei in
    let inrest = each_append (In start end) ps vs (pauses_in_lem start end db b.threshold) (voicings_in start end pitch voicing skip) in
    let inmins = minima_in start end level skip in
    record {
      rise = chosen_reaches (cap_of nuclei) start end js (ps ++ vs) mins wide room injs inrest inmins;
      few = chosen_few (cap_of nuclei) start end js (ps ++ vs) mins wide room injs inrest inmins;
      near = chosen_near (cap_of nuclei) start end js (ps ++ vs) mins wide room injs inrest inmins;
    }
  where
    more : (a n : ℕ) → a ≤ 2 * n → 2 + a ≤ 4 * n + 2
    more a n h = omega arith

-- THE PROMISES, of a take
pub promised : (db pitch voicing : List Float) (start end : ℕ) (nuclei : List ℕ) (p : Settings) → start + 2 < end →
    Promised start end nuclei (joints_inside (levels db) (syllable_runs pitch) p.dip start end nuclei) (boundaries_of db pitch voicing start end nuclei p)
promised db pitch voicing start end nuclei p wide = promised_in db (levels db) pitch voicing (record { threshold = threshold_of db p; start = start; end = end }) p.dip nuclei wide

-- ---- pauses
-- the frames that changes are read at are among those of all changes
among : (f : ℕ → ℕ) (l : List ℕ) → Each (λ i. member (map f l) (f i) ≡ true) l
unfolding member
among f [] = tt
among f (i ∷ l) = (
  member_first (f i) (map f l),
  each_map (λ j. member (map f l) (f j) ≡ true) (λ j. member (f i ∷ map f l) (f j) ≡ true) (λ j e. or_right (eqb (f i) (f j)) (member (map f l) (f j)) e) l (among f l),
)

module _ (db : List Float) (threshold : Float) where
  -- both edges of a pause are in a list
  abbrev pub BothIn : List ℕ → Span → Type 0
  BothIn frames g = (member frames g.first ≡ true) × (member frames g.last ≡ true)

  both : (frames l : List ℕ) → Each (λ i. member frames (loud_beside db threshold i) ≡ true) l → Each (BothIn frames) (pauses_at db threshold l)
  both frames [] h = tt
  both frames (i ∷ []) h = tt
  both frames (i ∷ j ∷ js) h = go (not (speech_at threshold db i)) (both frames (j ∷ js) h.1)
    where
      go : (b : Bool) → Each (BothIn frames) (pauses_at db threshold (j ∷ js)) →
          Each (BothIn frames) (cons_if b (record { first = loud_beside db threshold i; last = loud_beside db threshold j }) (pauses_at db threshold (j ∷ js)))
      go true r = ((h.0, h.1.0), r)
      go false r = r

  -- the two edges of each pause are among those that are tried
  pub pause_edges_lem : (start end : ℕ) → Each (BothIn (map (λ (c : Candidate). c.frame) (pause_edges db threshold start end))) (pauses_in db threshold start end)
  unfolding pause_edges
  pause_edges_lem start end =
      let here = between start end (changed (speech_at threshold db)) in
      both (map (λ (c : Candidate). c.frame) (map (pause_edge db threshold) here)) here
      (subst (λ (l : List ℕ). Each (λ i. member l (loud_beside db threshold i) ≡ true) here) (sym (map-map (λ (c : Candidate). c.frame) (pause_edge db threshold) here)) (among (loud_beside db threshold) here))

-- so the bound with pauses holds, and without the pauses too
pub with_pauses : (db pitch voicing : List Float) (start end : ℕ) (nuclei : List ℕ) (p : Settings) → start + 2 < end →
    length (boundaries_of db pitch voicing start end nuclei p) ≤ most_boundaries (length nuclei) (length (pauses_in db (threshold_of db p) start end))
with_pauses db pitch voicing start end nuclei p wide = more _ _ _ (promised db pitch voicing start end nuclei p wide).few
  where
    more : (a n k : ℕ) → a ≤ 4 * n + 2 → a ≤ 4 * n + 2 + 2 * (k - n)
    more a n k h = omega arith

-- ---- any two of them
apart_from : (x : ℕ) (ys : List ℕ) → RisesFrom x ys → Pairs (λ a b. a + 2 < b) (x ∷ ys)
apart_from x [] r = (tt, tt)
apart_from x (y ∷ ys) r =
    let rest = apart_from y ys r.1 in
    ((r.0, each_map (λ z. y + 2 < z) (λ z. x + 2 < z) (λ z h. omega (arith, r.0)) ys rest.0), rest)

-- boundaries that reach from start to end are over 2 frames apart, whichever two
pub reaches_apart : (start end : ℕ) (bs : List ℕ) → Reaches start end bs → Pairs (λ a b. a + 2 < b) bs
reaches_apart start end [] r = absurd r
reaches_apart start end (x ∷ xs) r = apart_from x xs r.2

few_from : (x : ℕ) (ys : List ℕ) → RisesFrom x ys → x + length ys ≤ last_of x ys
few_from x [] r = omega arith
few_from x (y ∷ ys) r = omega (arith, r.0, few_from y ys r.1)

-- and no more than the frames up to the end, and one
pub reaches_few : (start end : ℕ) (bs : List ℕ) → Reaches start end bs → length bs ≤ end + 1
reaches_few start end [] r = absurd r
reaches_few start end (x ∷ xs) r = omega (arith, r.1, few_from x xs r.2)
