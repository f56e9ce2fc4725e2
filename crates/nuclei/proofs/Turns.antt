-- Whether a run is held may be asked of the peaks alone: a top belongs to no later run than its own, so the candidates are those of the runs taken in turn
-- with the candidates so far. Assumes nothing.
use Prim.Native.Nat.{ℕ, ◌+◌, ◌-◌, ◌<◌, ◌≤◌}
use native.Mathlib.Omega.{arith}
use mathlib.Core.Path.{◌≡◌, refl, sym, ap, subst, ◌∙◌}
use mathlib.Core.Bool.{Bool, true, false, ◌||◌, not, cond}
use mathlib.Core.List.{List, [], ◌∷◌, ◌++◌, map, map-append, append-nil, append_assoc}
use lib.ListN.{length, get_or, length-append, get_or-append}
use lib.Seq.{get_or-append_seam}
use lib.Dec.{leb, ltb}
use lib.Ieee.{Float}
use borrow.Author.Tests.{leb-true, leb-false, ltb-true, ne_eqb}
use Rattle.lists.specs.Results.{cons_if, filter}
use Rattle.lists.specs.By.{Each}
use Rattle.lists.specs.Marks.{member}
use Rattle.lists.proofs.Tests.{and_cases}
use Rattle.lists.proofs.Fill.{filter_append}
use Rattle.lists.proofs.Entries.{each_map, each_append, each_at}
use Rattle.lists.proofs.Members.{member_append}
use Rattle.smooth.specs.declared.extrema.Extremum.TheVariants.{Max}
use Rattle.smooth.proofs.Best.{middle_within}
use Rattle.runs.specs.declared.voiced.Span.{Span}
use Rattle.runs.specs.Near.{distance, run_of, number_of, Answers}
use Rattle.runs.specs.declared.near.Found.{Found}
use Rattle.std.specs.Prelude.{Option, None, Some, is_some}
use Rattle.runs.proofs.Nearest.{run_of_answers}
use Rattle.region.specs.declared.Bounds.{Bounds}
use Rattle.nuclei.specs.Peaks.{voiced_peaks}
use Rattle.nuclei.specs.Tops.{runs_held, unheld_from, unheld, part_first, part_end, top_of, stands_alone, has_top, tops_of}
use Rattle.nuclei.specs.Nuclei.{candidates}

-- ---- the runs taken in turn, each asked of the candidates so far
module _ (s : List Float) (b : Bounds) (dip : Float) (rs : List Span) where
  -- run r, of number k, adds its top to the candidates so far unless one of them belongs to it
  unfoldable pub add_top : ℕ → Span → List ℕ → List ℕ
  add_top k r cs = cond (member (runs_held rs cs) k) cs (cs ++ tops_of s b dip (r ∷ []))

  -- so do runs that are numbered from k on, one after the other
  unfoldable pub add_tops : ℕ → List Span → List ℕ → List ℕ
  add_tops k [] cs = cs
  add_tops k (r ∷ qs) cs = add_tops (k + 1) qs (add_top k r cs)

held_append : (rs : List Span) (xs ys : List ℕ) → runs_held rs (xs ++ ys) ≡ runs_held rs xs ++ runs_held rs ys
unfolding runs_held
held_append rs xs ys =
    ap (λ (l : List (Option Found)). map number_of (filter is_some l)) (map-append (run_of rs) xs ys)
    ∙ ap (map number_of) (filter_append is_some (map (run_of rs) xs) (map (run_of rs) ys))
    ∙ map-append number_of (filter is_some (map (run_of rs) xs)) (filter is_some (map (run_of rs) ys))

-- numbers below k do not hold k
low_member : (k : ℕ) (xs : List ℕ) → Each (λ j. j < k) xs → member xs k ≡ false
unfolding member
low_member k [] e = refl
low_member k (x ∷ xs) e = rw (ne_eqb x k (λ q. omega (arith, e.0, q)), low_member k xs e.1)

module _ (s : List Float) (b : Bounds) (dip : Float) (w : b.end ≤ length s) (rs : List Span) where
  -- a frame of a run belongs to that one or to an earlier one
  frame_low : (done : List Span) (q : Span) (later : List Span) (t : ℕ) → rs ≡ done ++ (q ∷ later) → distance q t ≡ 0 → Each (λ j. j < length done + 1) (runs_held rs (t ∷ []))
  unfolding runs_held filter
  frame_low done q later t e z = go (run_of rs t) (run_of_answers t rs)
    where
      go : (f : Option Found) → Answers t rs f → Each (λ j. j < length done + 1) (map number_of (cons_if (is_some f) f []))
      go None a = tt
      go (Some f) a = (side (leb f.number (length done)) refl, tt)
        where
          side : (c : Bool) → leb f.number (length done) ≡ c → f.number < length done + 1
          side true h = omega (arith, leb-true f.number (length done) h)
          side false h =
              let r = f.run in
              let i : length done < length a.earlier = omega (arith, leb-false f.number (length done) h, a.index) in
              let d : distance r t < distance (get_or a.earlier (length done) q) t = each_at (λ u. distance r t < distance u t) a.earlier q a.farther (length done) i in
              let g : get_or a.earlier (length done) q ≡ q = sym (get_or-append a.earlier (r ∷ a.later) q (length done) i) ∙ ap (λ (l : List Span). get_or l (length done) q) (sym a.split ∙ e) ∙ get_or-append_seam done q later q in
              absurd (omega (arith, subst (λ (u : Span). distance r t < distance u t) g d, z))

  top_inside : (q : Span) → has_top s b dip q ≡ true → distance q (top_of s b q) ≡ 0
  unfolding has_top top_of
  top_inside q e =
      let h : part_first b q < part_end b q = ltb-true (part_first b q) (part_end b q) (and_cases (ltb (part_first b q) (part_end b q)) (stands_alone s b dip (top_of s b q)) e).0 in
      let m = middle_within Max s (part_first b q) (part_end b q - 1) (omega arith) (omega arith) in
      omega (arith, m.0, m.1)

  tops_low : (done : List Span) (q : Span) (later : List Span) → rs ≡ done ++ (q ∷ later) → Each (λ j. j < length done + 1) (runs_held rs (tops_of s b dip (q ∷ [])))
  unfolding tops_of filter runs_held
  tops_low done q later e = go (has_top s b dip q) refl
    where
      go : (c : Bool) → has_top s b dip q ≡ c → Each (λ j. j < length done + 1) (runs_held rs (map (top_of s b) (cons_if c q [])))
      go true h = frame_low done q later (top_of s b q) e (top_inside q h)
      go false h = tt

  tops_cons : (q : Span) (us : List Span) → tops_of s b dip (q ∷ []) ++ tops_of s b dip us ≡ tops_of s b dip (q ∷ us)
  unfolding tops_of filter
  tops_cons q us = go (has_top s b dip q)
    where
      go : (c : Bool) → map (top_of s b) (cons_if c q []) ++ tops_of s b dip us ≡ map (top_of s b) (cons_if c q (filter (has_top s b dip) us))
      go true = refl
      go false = refl

  module _ (peaks : List ℕ) where
    -- after the runs `done`, whose tops are among ts
    turn : (done qs : List Span) (ts : List ℕ) → rs ≡ done ++ qs → Each (λ j. j < length done) (runs_held rs ts) →
        add_tops s b dip rs (length done) qs (peaks ++ ts) ≡ peaks ++ (ts ++ tops_of s b dip (unheld_from (runs_held rs peaks) (length done) qs))
    unfolding add_tops add_top unheld_from tops_of filter
    turn done [] ts e l = ap (λ (z : List ℕ). peaks ++ z) (sym (append-nil ts))
    turn done (q ∷ qs) ts e l = go (member (runs_held rs peaks) (length done)) refl (λ us m. subst (T us) counted (turn (done ++ (q ∷ [])) qs us (e ∙ sym (append_assoc done (q ∷ []) qs)) (subst (λ (k : ℕ). Each (λ j. j < k) (runs_held rs us)) (sym counted) m)))
      where
        counted : length (done ++ (q ∷ [])) ≡ length done + 1
        counted = length-append done (q ∷ [])

        T : List ℕ → ℕ → Type 0
        T us k = add_tops s b dip rs k qs (peaks ++ us) ≡ peaks ++ (us ++ tops_of s b dip (unheld_from (runs_held rs peaks) k qs))

        held_so_far : member (runs_held rs (peaks ++ ts)) (length done) ≡ (member (runs_held rs peaks) (length done) || member (runs_held rs ts) (length done))
        held_so_far = ap (λ (l : List ℕ). member l (length done)) (held_append rs peaks ts) ∙ member_append (runs_held rs peaks) (runs_held rs ts) (length done)

        higher : Each (λ j. j < length done + 1) (runs_held rs ts)
        higher = each_map (λ j. j < length done) (λ j. j < length done + 1) (λ j h. omega arith) (runs_held rs ts) l

        go : (c : Bool) → member (runs_held rs peaks) (length done) ≡ c → ((us : List ℕ) → Each (λ j. j < length done + 1) (runs_held rs us) → T us (length done + 1)) →
            add_tops s b dip rs (length done + 1) qs (add_top s b dip rs (length done) q (peaks ++ ts)) ≡ peaks ++ (ts ++ tops_of s b dip (cons_if (not (member (runs_held rs peaks) (length done))) q (unheld_from (runs_held rs peaks) (length done + 1) qs)))
        go true h next = rw (held_so_far, h) (next ts higher)
        go false h next =
            let tq = tops_of s b dip (q ∷ []) in
            rw (held_so_far, h, low_member (length done) (runs_held rs ts) l, append_assoc peaks ts tq)
            (next (ts ++ tq) (subst (Each (λ j. j < length done + 1)) (sym (held_append rs ts tq)) (each_append (λ j. j < length done + 1) (runs_held rs ts) (runs_held rs tq) higher (tops_low done q qs e)))
            ∙ ap (λ (z : List ℕ). peaks ++ z) (append_assoc ts tq (tops_of s b dip (unheld_from (runs_held rs peaks) (length done + 1) qs)) ∙ ap (λ (z : List ℕ). ts ++ z) (tops_cons q (unheld_from (runs_held rs peaks) (length done + 1) qs))))

  -- the candidates are the peaks and what the runs, taken in turn, add to them
  pub candidates_in_turn : (pitch : List Float) → candidates s pitch rs b dip ≡ add_tops s b dip rs 0 rs (voiced_peaks s pitch b rs)
  unfolding candidates unheld runs_held filter
  candidates_in_turn pitch = sym (turn (voiced_peaks s pitch b rs) [] rs [] refl tt) ∙ ap (add_tops s b dip rs 0 rs) (append-nil (voiced_peaks s pitch b rs))
