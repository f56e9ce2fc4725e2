-- What is added to a track more than 3 frames from all its pitches has no say in their repair (`repaired_apart`): frame by frame from the last, the runs of the
-- track with it are the runs of the track without it, and others that have no pitch of that track within 3 frames (`Among`). Assumes nothing.
use Prim.Native.Nat.{ℕ, zero, suc, ◌+◌, ◌-◌, ◌≤◌, ◌<◌}
use native.Mathlib.Nat.{le_refl, le_trans, le-suc}
use native.Mathlib.Omega.{arith}
use mathlib.Core.Path.{◌≡◌, refl, sym, ap, ap₂, ◌∙◌, subst, subst₂}
use mathlib.Core.Bool.{Bool, true, false, cond, true≢false}
use mathlib.Core.List.{List, [], ◌∷◌, map}
use mathlib.Core.Logic.{◌⊎◌, ⊎_elim}
use lib.Dec.{ltb}
use lib.ListN.{length}
use lib.Ieee.{Float, ne}
use borrow.Author.Tests.{leb-true, lt-leb}
use Rattle.floats.specs.Plain.{zero_f}
use Rattle.floats.proofs.Less.{le_or_lt}
use Rattle.lists.specs.Results.{cons_if, keep, filter}
use Rattle.lists.specs.By.{Each}
use Rattle.lists.specs.Frames.{at}
use Rattle.lists.specs.Grouped.{attach, grouped}
use Rattle.lists.specs.Marks.{member}
use Rattle.lists.proofs.Tests.{not_holds}
use Rattle.lists.proofs.Entries.{each_append, each_kept, map_same}
use Rattle.lists.proofs.Parts.{each_take, each_drop}
use Rattle.lists.proofs.Fill.{keep_same}
use Rattle.lists.proofs.Members.{kept_where, member_each}
use Rattle.runs.specs.declared.voiced.Run.{Run}
use Rattle.runs.specs.Runs.{voiced, voiced_frames, sole, close, joined, voiced_runs, long, span, long_runs}
use Rattle.repair.specs.Repair.{voiced_in, last_few, neighbours, beside, repaired_in, repaired_among, repaired}
use Rattle.repair.proofs.Runs.{repaired_at}

-- ---- runs from a frame on
-- the first of them, if there is one, begins at frame lo or later
abbrev From : ℕ → List Run → Type 0
From lo [] = Unit
From lo (r ∷ rs) = lo ≤ r.first

from_earlier : (lo lo' : ℕ) (rs : List Run) → lo ≤ lo' → From lo' rs → From lo rs
from_earlier lo lo' [] h f = tt
from_earlier lo lo' (r ∷ rs) h f = omega arith

-- a frame more than 3 before them is a run by itself
stands_alone_lem : (i : ℕ) (rs : List Run) → From (i + 4) rs → attach close joined (sole i) rs ≡ sole i ∷ rs
unfolding attach
stands_alone_lem i [] h = refl
stands_alone_lem i (r ∷ rs) h = rw (lt-leb (r.first - i) 3 (omega arith))

-- ---- what each frame of a run has, the neighbours of a frame have
each_neighbours : (P : ℕ → Type 0) (run : List ℕ) (i : ℕ) → Each P run → Each P (neighbours run i)
unfolding neighbours
each_neighbours P run i h =
    let before = filter (λ j. ltb j i) run in
    let after = filter (λ j. ltb i j) run in
    each_append P (last_few 5 before) _ (each_drop P (length before - 5) before (each_kept P (λ j. ltb j i) run h)) (each_take P 5 after (each_kept P (λ j. ltb i j) run h))

-- ---- the runs of a track p, and of a track q to which pitches are added
module _ (p q : List Float) where
  alike : (i : ℕ) → at q i ≡ at p i → voiced q i ≡ voiced p i
  alike i e = ap (λ (x : Float). ne x zero_f) e

  -- a run of both: it begins with a pitch of p, and the tracks agree in it
  record Shared (r : Run) : Type 0 where
    order : r.first ≤ r.last
    within : r.last < length p
    opens : voiced p r.first ≡ true
    agrees : (j : ℕ) → r.first ≤ j → j ≤ r.last → at q j ≡ at p j

  -- a run of q alone: p has no pitch within 3 frames
  record Clear (r : Run) : Type 0 where
    order : r.first ≤ r.last
    clear : (j : ℕ) → j < length p → r.first ≤ j + 3 → j ≤ r.last + 3 → voiced p j ≡ false

  -- the runs of p among those of q, in order, from frame lo on
  data Among : ℕ → List Run → List Run → Type 0 where
    none : {lo : ℕ} → Among lo [] []
    kept : {lo : ℕ} {r : Run} {ps qs : List Run} → Shared r → lo ≤ r.first → Among (suc r.last) ps qs → Among lo (r ∷ ps) (r ∷ qs)
    added : {lo : ℕ} {r : Run} {ps qs : List Run} → Clear r → lo ≤ r.first → Among (suc r.last) ps qs → Among lo ps (r ∷ qs)

  among_from : {lo lo' : ℕ} {ps qs : List Run} → lo ≤ lo' → Among lo' ps qs → Among lo ps qs
  among_from h none = none
  among_from h (kept s l a) = kept s (le_trans h l) a
  among_from h (added c l a) = added c (le_trans h l) a

  among_begins : {lo : ℕ} {ps qs : List Run} → Among lo ps qs → From lo ps
  among_begins none = tt
  among_begins (kept s l a) = l
  among_begins {lo} (added {r = r} {ps = ps} c l a) = from_earlier lo (suc r.last) ps (omega (arith, l, c.order)) (among_begins a)

  -- ---- a run of both, repaired
  frames_same : (r : Run) → Shared r → voiced_in q (span r) ≡ voiced_in p (span r)
  unfolding voiced_in
  frames_same r s = keep_same (voiced q) (voiced p) r.first (r.last + 1 - r.first) (λ j a b. alike j (s.agrees j a (omega arith)))

  repaired_same : (r : Run) → Shared r → (i : ℕ) → at q i ≡ at p i → repaired_in q (voiced_in p (span r)) i ≡ repaired_in p (voiced_in p (span r)) i
  unfolding voiced_in
  repaired_same r s i e =
      let run = voiced_in p (span r) in
      ap₂ beside e (map_same (at q) (at p) (neighbours run i) (each_neighbours (λ j. at q j ≡ at p j) run i
      (member_each (λ j. at q j ≡ at p j) run (λ j m. let k = kept_where (voiced p) r.first (r.last + 1 - r.first) j m in s.agrees j k.0 (omega arith)))))

module _ (p q : List Float) (same : length q ≡ length p)
    (apart : (i : ℕ) → i < length p → (at q i ≡ at p i) ⊎ ((j : ℕ) → j < length p → i ≤ j + 3 → j ≤ i + 3 → voiced p j ≡ false)) where
  -- ---- one more frame in front
  module _ (i : ℕ) (h : i < length p) where
    -- with a pitch of p: within 3 frames of it the tracks agree
    module _ (v : voiced p i ≡ true) where
      stays : (j : ℕ) → j < length p → i ≤ j + 3 → j ≤ i + 3 → at q j ≡ at p j
      stays j l a b = ⊎_elim (λ e. e) (λ f. absurd (true≢false (sym v ∙ f i h b a))) (apart j l)

      shared_sole : Shared p q (sole i)
      shared_sole = record { order = omega arith; within = h; opens = v; agrees = λ j a b. stays j (omega arith) (omega arith) (omega arith) }

      shared_joined : (r : Run) → i < r.first → close (sole i) r ≡ true → Shared p q r → Shared p q (joined (sole i) r)
      shared_joined r l e s =
          let n = leb-true (r.first - i) 3 e in
          record {
            order = omega arith;
            within = s.within;
            opens = v;
            agrees = λ j a b. ⊎_elim (λ from. s.agrees j from b) (λ before. stays j (omega arith) (omega arith) (omega arith)) (le_or_lt r.first j);
          }

      put_both : {ps qs : List Run} → Among p q (suc i) ps qs → Among p q i (attach close joined (sole i) ps) (attach close joined (sole i) qs)
      unfolding attach
      put_both none = kept shared_sole (le_refl i) none
      put_both (kept {r = r} {ps = ps} {qs = qs} s l a) = pick (close (sole i) r) refl
        where
          pick : (b : Bool) → close (sole i) r ≡ b → Among p q i (cond b (joined (sole i) r ∷ ps) (sole i ∷ r ∷ ps)) (cond b (joined (sole i) r ∷ qs) (sole i ∷ r ∷ qs))
          pick true e = kept (shared_joined r l e s) (le_refl i) a
          pick false e = kept shared_sole (le_refl i) (kept s l a)
      put_both (added {r = r} {ps = ps} {qs = qs} c l a) =
          let far : i + 4 ≤ r.first = ⊎_elim (λ f. f) (λ n. absurd (true≢false (sym v ∙ c.clear i h (omega arith) (omega arith)))) (le_or_lt (i + 4) r.first) in
          subst₂ (Among p q i) (sym (stands_alone_lem i ps (from_earlier (i + 4) (suc r.last) ps (omega arith) (among_begins p q a)))) (sym (stands_alone_lem i (r ∷ qs) far))
          (kept shared_sole (le_refl i) (added c l a))

    -- with a pitch that is added: within 3 frames of it p has none
    module _ (n : voiced p i ≡ false) (v : voiced q i ≡ true) where
      clear_sole : Clear p q (sole i)
      clear_sole = record { order = omega arith; clear = ⊎_elim (λ e. absurd (true≢false (sym v ∙ alike p q i e ∙ n))) (λ f. f) (apart i h) }

      clear_joined : (r : Run) → i < r.first → close (sole i) r ≡ true → Clear p q r → Clear p q (joined (sole i) r)
      clear_joined r l e c =
          let m = leb-true (r.first - i) 3 e in
          record { order = omega arith; clear = λ j k a b. ⊎_elim (λ near. clear_sole.clear j k a near) (λ past. c.clear j k (omega arith) b) (le_or_lt j (i + 3)) }

      put_added : {ps qs : List Run} → Among p q (suc i) ps qs → Among p q i ps (attach close joined (sole i) qs)
      unfolding attach
      put_added none = added clear_sole (le_refl i) none
      put_added (kept {r = r} {ps = ps} {qs = qs} s l a) =
          let far : i + 4 ≤ r.first = ⊎_elim (λ f. f) (λ n. absurd (true≢false (sym s.opens ∙ clear_sole.clear r.first (omega arith) (omega arith) (omega arith)))) (le_or_lt (i + 4) r.first) in
          subst (Among p q i (r ∷ ps)) (sym (stands_alone_lem i (r ∷ qs) far)) (added clear_sole (le_refl i) (kept s l a))
      put_added (added {r = r} {ps = ps} {qs = qs} c l a) = pick (close (sole i) r) refl
        where
          pick : (b : Bool) → close (sole i) r ≡ b → Among p q i ps (cond b (joined (sole i) r ∷ qs) (sole i ∷ r ∷ qs))
          pick true e = added (clear_joined r l e c) (le_refl i) a
          pick false e = added clear_sole (le_refl i) (added c l a)

  -- ---- all frames
  frames_among : (i k : ℕ) → i + k ≤ length p → Among p q i (grouped close joined (map sole (keep (voiced p) i k))) (grouped close joined (map sole (keep (voiced q) i k)))
  unfolding keep grouped
  frames_among i zero h = none
  frames_among i (suc k) h = go (voiced p i) (voiced q i) refl refl (frames_among (suc i) k (omega arith))
    where
      runs : List Float → List Run
      runs track = grouped close joined (map sole (keep (voiced track) (suc i) k))

      l : i < length p
      l = omega arith

      go : (a b : Bool) → voiced p i ≡ a → voiced q i ≡ b → Among p q (suc i) (runs p) (runs q)
          → Among p q i (grouped close joined (map sole (cons_if a i (keep (voiced p) (suc i) k)))) (grouped close joined (map sole (cons_if b i (keep (voiced q) (suc i) k))))
      go true true v w a = put_both i l v a
      go true false v w a = absurd (true≢false (sym v ∙ sym (alike p q i (stays i l v i l (omega arith) (omega arith))) ∙ w))
      go false true v w a = put_added i l v w a
      go false false v w a = among_from p q (le-suc i) a

  runs_among : Among p q 0 (voiced_runs p) (voiced_runs q)
  unfolding voiced_runs voiced_frames
  runs_among = rw same (frames_among 0 (length p) (omega arith))

  -- ---- a frame with a pitch of p, repaired
  module _ (i : ℕ) (h : i < length p) (v : voiced p i ≡ true) where
    as_it_was : at q i ≡ at p i
    as_it_was = stays i h v i h (omega arith) (omega arith)

    not_in_clear : (r : Run) → Clear p q r → member (voiced_in q (span r)) i ≡ false
    unfolding voiced_in
    not_in_clear r c =
        not_holds (member (voiced_in q (span r)) i) (λ m.
        let k = kept_where (voiced q) r.first (r.last + 1 - r.first) i m in true≢false (sym v ∙ c.clear i h (omega arith) (omega arith)))

    among_same : {lo : ℕ} {ps qs : List Run} → Among p q lo ps qs → repaired_among q (map span (filter long qs)) i ≡ repaired_among p (map span (filter long ps)) i
    unfolding repaired_among filter
    among_same none = as_it_was
    among_same (kept {r = r} {ps = ps} {qs = qs} s l a) = go (long r) (among_same a)
      where
        go : (b : Bool) → repaired_among q (map span (filter long qs)) i ≡ repaired_among p (map span (filter long ps)) i
            → repaired_among q (map span (cons_if b r (filter long qs))) i ≡ repaired_among p (map span (cons_if b r (filter long ps))) i
        go true e = rw (frames_same p q r s, repaired_same p q r s i as_it_was, e)
        go false e = e
    among_same (added {r = r} {ps = ps} {qs = qs} c l a) = go (long r) (among_same a)
      where
        go : (b : Bool) → repaired_among q (map span (filter long qs)) i ≡ repaired_among p (map span (filter long ps)) i
            → repaired_among q (map span (cons_if b r (filter long qs))) i ≡ repaired_among p (map span (filter long ps)) i
        go true e = rw (not_in_clear r c) e
        go false e = e

  -- a frame with a pitch of p comes out as if nothing were added
  pub repaired_apart : (i : ℕ) → i < length p → voiced p i ≡ true → at (repaired q) i ≡ at (repaired p) i
  unfolding long_runs
  repaired_apart i h v = repaired_at q i (omega arith) ∙ among_same i h v runs_among ∙ sym (repaired_at p i h)
