-- The boundaries, put together from the stages: what the stages leave marked are their frames. Assumes nothing.
use Prim.Native.Nat.{ℕ, ◌+◌, ◌≤◌}
use native.Mathlib.Omega.{arith}
use mathlib.Core.Path.{◌≡◌, refl, sym, ap, subst, ◌∙◌}
use mathlib.Core.Bool.{Bool, true, false, cond}
use mathlib.Core.List.{List, [], ◌∷◌, ◌++◌}
use lib.ListN.{length, drop}
use lib.Dec.{eqb}
use lib.Ieee.{Float}
use borrow.Author.Tests.{eqb-false}
use Rattle.lists.specs.Results.{overlay, Listed}
use Rattle.lists.specs.By.{Each, Pairs}
use Rattle.lists.specs.Sorted.{sorted, StrictlyRises}
use Rattle.lists.specs.Marks.{Once}
use Rattle.lists.specs.Candidates.{in_turn}
use Rattle.lists.proofs.Entries.{each_map, each_append}
use Rattle.lists.proofs.Members.{keep_rises}
use Rattle.lists.proofs.Turns.{turn_each}
use Rattle.smooth.specs.Level.{levels}
use Rattle.smooth.proofs.Averages.{length_levels}
use Rattle.region.specs.declared.Bounds.{Bounds}
use Rattle.runs.specs.Syllables.{syllable_runs}
use Rattle.boundaries.specs.Keeping.{add_all, ends}
use Rattle.boundaries.specs.declared.taken.Kept.{Kept}
use Rattle.boundaries.specs.Taken.{marked, Taken, AddedInTurn, taken_frames}
use Rattle.boundaries.specs.Joints.{joints_inside}
use Rattle.boundaries.specs.Edges.{pause_edges, voicing_edges}
use Rattle.boundaries.specs.Minima.{minima}
use Rattle.boundaries.specs.Boundaries.{cap_of, edges, chosen, boundaries_in, creaky}
use Rattle.boundaries.proofs.Adding.{Other, far_other, pairs_once, add_each, add_pairs}
use Rattle.boundaries.proofs.Cells.{in_order_lem}
use Rattle.boundaries.proofs.Turns.{In, pauses_in_lem, voicings_in, each_minimum}
use Rattle.boundaries.proofs.Jointly.{joints_in}

-- ---- the minima
-- the kept frames rise
pub frames_rise : (m : List Bool) (n : ℕ) → n ≤ 2048 → StrictlyRises 0 2049 (taken_frames m n)
frames_rise m n h = keep_rises (λ x. marked m (x + 2)) 2049 0 (n + 1) (omega arith)

-- tried on what is kept
pub minima_added : (s : List Float) (skip : ℕ → Bool) {k k' : Kept} → AddedInTurn (in_turn (minima s skip (taken_frames k.marks (length s)))) k k' →
    (l : List ℕ) → Each (λ x. x ≤ length s) l → Once l → Taken l k → Taken (add_all k.cap l (in_turn (minima s skip (sorted l)))) k'
minima_added s skip {k} {k'} a l h o t =
    subst (λ (z : List ℕ). Taken (add_all k.cap l (in_turn (minima s skip z))) k') (in_order_lem l k (length s) t h o) (a.adds l t)

-- ---- all stages
ends_in : (start end : ℕ) → start ≤ end → Each (In start end) (ends start end)
ends_in start end h = go (eqb start end)
  where
    go : (b : Bool) → Each (In start end) (cond b (start ∷ []) (start ∷ end ∷ []))
    go true = ((omega arith, h), tt)
    go false = ((omega arith, h), ((h, omega arith), tt))

ends_other : (start end : ℕ) → Pairs Other (ends start end)
ends_other start end = go (eqb start end) refl
  where
    go : (b : Bool) → eqb start end ≡ b → Pairs Other (cond b (start ∷ []) (start ∷ end ∷ []))
    go true e = (tt, tt)
    go false e = ((eqb-false start end e, tt), (tt, tt))

module _ (db level pitch voicing : List Float) (b : Bounds) (dip : Float) (ns : List ℕ) where
  abbrev skip : ℕ → Bool
  skip = creaky db pitch b.threshold

  abbrev tried : List ℕ
  tried = edges db level pitch voicing b dip skip ns

  -- the candidates before the minima lie in the region
  tried_in : Each (In b.start b.end) tried
  tried_in =
      let js = joints_inside level (syllable_runs pitch) dip b.start b.end ns in
      let ps = in_turn (pause_edges db b.threshold b.start b.end) in
      let vs = in_turn (voicing_edges pitch voicing skip b.start b.end) in
      each_append (In b.start b.end) js (ps ++ vs) (joints_in level (syllable_runs pitch) dip b.start b.end ns)
      (each_append (In b.start b.end) ps vs (pauses_in_lem b.start b.end db b.threshold) (voicings_in b.start b.end pitch voicing skip))

  module _ (order : b.start ≤ b.end) (fits : b.end ≤ length level) where
    abbrev kept : List ℕ
    kept = add_all (cap_of ns) (ends b.start b.end) tried

    kept_within : Each (λ x. x ≤ length level) kept
    kept_within =
        each_map (In b.start b.end) (λ x. x ≤ length level) (λ x h. omega (arith, h.1)) kept
        (add_each (cap_of ns) (In b.start b.end) (ends b.start b.end) tried (ends_in b.start b.end order) tried_in)

    kept_other : Pairs Other kept
    kept_other = add_pairs (cap_of ns) Other far_other (ends b.start b.end) tried (ends_other b.start b.end)

    kept_once : Once kept
    kept_once = pairs_once kept kept_other

    -- the frames that are marked in the end
    pub whole_frames : {k k' : Kept} → Taken kept k → k.cap ≡ cap_of ns →
        ((l : List ℕ) → Each (λ x. x ≤ length level) l → Once l → Taken l k → Taken (add_all k.cap l (in_turn (minima level skip (sorted l)))) k') →
        taken_frames k'.marks (length level) ≡ boundaries_in db level pitch voicing b dip ns
    unfolding boundaries_in chosen
    whole_frames {k} {k'} t e f =
        let mins = in_turn (minima level skip (sorted kept)) in
        in_order_lem (add_all (cap_of ns) kept mins) k' (length level) (subst (λ (c : ℕ). Taken (add_all c kept mins) k') e (f kept kept_within kept_once t))
        (add_each (cap_of ns) (λ x. x ≤ length level) kept mins kept_within
        (turn_each (λ x. x ≤ length level) (minima level skip (sorted kept)) (each_minimum (λ c. c.frame ≤ length level) level skip (sorted kept) (λ i h. omega arith))))
        (pairs_once (add_all (cap_of ns) kept mins) (add_pairs (cap_of ns) Other far_other kept mins kept_other))

-- a result that is copied to the front of a lent list
pub copied : {res items new old : List ℕ} {n : ℕ} → items ≡ res → n ≡ length items → new ≡ items → Listed res old (new ++ drop n old) n
unfolding overlay
copied e c d = record { count = c ∙ ap length e; entries = rw (d, c, e) }

-- the level that was written
pub level_listed : (db : List Float) {old new : List Float} → new ≡ overlay (levels db) old → Listed (levels db) old new (length db)
level_listed db e = record { count = sym (length_levels db); entries = e }
