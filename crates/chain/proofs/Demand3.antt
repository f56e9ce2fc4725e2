-- Demand 3 of the whole chain: a take times a whole number other than 0 is answered alike, and the boundaries of a found region keep their promises; beside it
-- what becomes of given pitches, the order of what is returned, and that a refused call leaves all that was lent. Shown of readings first, which the chain over
-- any lists returns. Assumes nothing.
use Prim.Native.Nat.{ℕ, zero, suc, ◌+◌, ◌<◌}
use native.Mathlib.Omega.{arith}
use mathlib.Core.Path.{◌≡◌, refl, sym, ap, subst, ◌∙◌}
use mathlib.Core.Bool.{true, false≢true}
use mathlib.Core.List.{List}
use lib.IntN.{ℤ, pos, ◌*ℤ◌}
use lib.ListN.{length, length-map}
use lib.Ieee.{Float}
use Rattle.lists.specs.Results.{overlay}
use Rattle.lists.proofs.Fill.{overlay_take}
use Rattle.lists.proofs.Keys.{Held}
use Rattle.region.specs.Speech.{threshold_of, marks_of, region_of}
use Rattle.region.specs.declared.Region.{Region}
use Rattle.std.specs.Prelude.{Option, None, Some}
use Rattle.region.proofs.Spans.{region_size, region_within}
use Rattle.repair.specs.Repair.{Pitches}
use Rattle.recover.proofs.Scaled.{recovered_scaled}
use Rattle.nuclei.specs.Nuclei.{nuclei_of, frames_of}
use Rattle.nuclei.proofs.Promises.{take_rises, take_few}
use Rattle.extra.specs.Extra.{extras_of}
use Rattle.extra.proofs.Promises.{extras_rise, edges_rise, extras_few, edges_few}
use Rattle.boundaries.specs.Boundaries.{boundaries_of}
use Rattle.boundaries.proofs.Promise.{promised, with_pauses, reaches_apart, reaches_few}
use Rattle.chain.specs.declared.Marks.{Marks}
use Rattle.chain.specs.Chain.{Take, Reading, Lists, LeftOf, Left, pitches_of, reading_in, reading_of, unmarked, answered, nothing, counted, written, as_lent, reading_by, answer_by, refusal_for, refusal_of, left_by, leaves, chain_of}
use Rattle.chain.specs.Promises.{scaled, Returned, returned_in, returned, BoundariesKept, PitchesKept, Ordered, Demanded}
use Rattle.chain.proofs.Marking.{framed, nothing_written, reading_pitch}
use Rattle.chain.proofs.Pitches.{pitches_admitted, pitches_kept}

-- ---- a take times a whole number
module _ (k : ℤ) (nonzero : k ≡ pos 0 → ⊥) (t : Take) where
  pub reading_scaled : reading_of (scaled k t) ≡ reading_of t
  unfolding reading_of pitches_of
  reading_scaled = rw (recovered_scaled k nonzero t.pitch t.samples (marks_of t.db t.settings) t.vowel)

-- what a caller reads off a reading and the answer that it is given by
abbrev read_off : Marks → Reading → Returned
read_off a m = record { answer = a; pitch = m.pitch; nuclei = frames_of m.nuclei; extras = frames_of m.extras; edges = m.edges; boundaries = m.boundaries }

-- ---- what is read off the marks of a region
no_marks : (t : Take) (pitch : List Float) (number : ℕ) → Ordered t (read_off (nothing number) (unmarked pitch))
no_marks t pitch number =
    record {
      region = (omega arith, omega arith);
      nuclei = tt;
      extras = tt;
      edges = tt;
      apart = tt;
      counted = (refl, refl, refl, refl);
      fit = (omega arith, omega arith, omega arith, omega arith);
    }

module _ (t : Take) (pitch : List Float) where
  abbrev told : Option Region → Returned
  told r = let m = reading_in t.db pitch t.voiced t.sonority t.settings r in read_off (answered m) m

  in_region : (r : Option Region) → region_of t.db t.settings ≡ r → (told r).answer.found ≡ true → BoundariesKept t (told r)
  in_region None e f = absurd (false≢true f)
  in_region (Some r) e f =
      let start = r.start in
      let end = r.end in
      let ns = frames_of (nuclei_of t.db pitch start end t.settings) in
      let wide : start + 2 < end = omega (arith, region_size (threshold_of t.db t.settings) t.db start end e) in
      record { promised = promised t.db pitch t.voiced start end ns t.settings wide; few = with_pauses t.db pitch t.voiced start end ns t.settings wide }

  in_order : (r : Option Region) → region_of t.db t.settings ≡ r → Ordered t (told r)
  in_order None e = no_marks t pitch 0
  in_order (Some r) e =
      let start = r.start in
      let end = r.end in
      let found = nuclei_of t.db pitch start end t.settings in
      let ns = frames_of found in
      let bs = boundaries_of t.db pitch t.voiced start end ns t.settings in
      let size = region_size (threshold_of t.db t.settings) t.db start end e in
      let within = region_within (threshold_of t.db t.settings) t.db start end e in
      let reach = (promised t.db pitch t.voiced start end ns t.settings (omega (arith, size))).rise in
      record {
        region = (omega (arith, size), within);
        nuclei = take_rises t.db pitch start end t.settings within;
        extras = extras_rise t.db pitch t.sonority start end ns t.settings;
        edges = edges_rise t.db pitch t.sonority start end ns t.settings;
        apart = reaches_apart start end bs reach;
        counted = (framed found, framed (extras_of t.db pitch t.sonority start end ns t.settings), refl, refl);
        fit = (
          omega (arith, framed found, take_few t.db pitch start end t.settings within),
          extras_few t.db pitch t.sonority start end ns t.settings,
          edges_few t.db pitch t.sonority start end ns t.settings,
          omega (arith, within, reaches_few start end bs reach),
        );
      }

-- ---- what is read off a call, by its refusal number
module _ (t : Take) where
  abbrev pub returned_by : ℕ → Returned
  returned_by number = read_off (answer_by t number) (reading_by t number)

  pub kept_by : (number : ℕ) → (returned_by number).answer.found ≡ true → BoundariesKept t (returned_by number)
  unfolding reading_by answer_by reading_of
  kept_by zero f = in_region t (pitches_of t) (region_of t.db t.settings) refl f
  kept_by (suc k) f = absurd (false≢true f)

  pub ordered_by : (number : ℕ) → Ordered t (returned_by number)
  unfolding reading_by answer_by reading_of
  ordered_by zero = in_order t (pitches_of t) (region_of t.db t.settings) refl
  ordered_by (suc k) = no_marks t t.pitch (suc k)

  -- the pitches, where the number is 0
  pub kept_pitches_by : (number : ℕ) → number ≡ 0 → (Held t.pitch → Pitches 40 2000 t.pitch) → PitchesKept t (returned_by number).pitch
  unfolding reading_by reading_of
  kept_pitches_by zero e a = subst (PitchesKept t) (sym (reading_pitch t.db (pitches_of t) t.voiced t.sonority t.settings (region_of t.db t.settings))) (pitches_kept t a)
  kept_pitches_by (suc k) e a = absurd (omega (arith, e))

  -- the number that is answered
  pub number_by : (number : ℕ) → (answer_by t number).refusal ≡ number
  unfolding answer_by
  number_by zero = go (reading_of t).region
    where
      go : (r : Option Region) → (counted (reading_of t) r).refusal ≡ 0
      go None = refl
      go (Some r) = refl
  number_by (suc k) = refl

  -- the answer counts what is read
  pub counts : (number : ℕ) → let m = reading_by t number in let a = answer_by t number in
      (a.nuclei ≡ length m.nuclei) × (a.extras ≡ length m.extras) × (a.edges ≡ length m.edges) × (a.boundaries ≡ length m.boundaries)
  counts number =
      let o = (ordered_by number).counted in
      let m = reading_by t number in
      (sym o.0 ∙ framed m.nuclei, sym o.1 ∙ framed m.extras, sym o.2, sym o.3)

-- ---- the chain over lists of any kind, by how a reading is written
module _ {L : Type 0} (written : Reading → L → L) (l : L) where
  -- what a call leaves, by its refusal number, where no marks leave the lists as they were
  pub leaves_by : ((pitch : List Float) → written (unmarked pitch) l ≡ l) → (t : Take) (number : ℕ)
      → leaves written t l number ≡ record { answer = answer_by t number; pitch = (reading_by t number).pitch; lists = written (reading_by t number) l }
  unfolding reading_by answer_by
  leaves_by blank t zero = refl
  leaves_by blank t (suc k) = ap (λ (m : L). record { answer = nothing (suc k); pitch = t.pitch; lists = m }) (sym (blank t.pitch))

  left_scaled : (k : ℤ) → (k ≡ pos 0 → ⊥) → (t : Take) (number : ℕ) → leaves written (scaled k t) l number ≡ leaves written t l number
  left_scaled k nonzero t zero = ap (λ (m : Reading). left_by written m l) (reading_scaled k nonzero t)
  left_scaled k nonzero t (suc n) = refl

  left_refused : (t : Take) (number : ℕ) → (number ≡ 0 → ⊥) → leaves written t l number ≡ as_lent t l number
  left_refused t zero n = absurd (n refl)
  left_refused t (suc k) n = refl

  -- where the lists hold the frames of nuclei and of extras, the edges and the boundaries: what is written there is read back
  module _ (nuclei extras edges bounds : L → List ℕ) (blank : (pitch : List Float) → written (unmarked pitch) l ≡ l) (refusal : Take → ℕ) (number-alike : (k : ℤ) (t : Take) → refusal (scaled k t) ≡ refusal t)
      (laid : (m : Reading) → (nuclei (written m l) ≡ overlay (frames_of m.nuclei) (nuclei l)) × (extras (written m l) ≡ overlay (frames_of m.extras) (extras l))
      × (edges (written m l) ≡ overlay m.edges (edges l)) × (bounds (written m l) ≡ overlay m.boundaries (bounds l)))
      (admits : (t : Take) → Held t.pitch → refusal t ≡ 0 → Pitches 40 2000 t.pitch) where
    abbrev read : LeftOf L → Returned
    read = returned_in nuclei extras edges bounds

    reads : (t : Take) (number : ℕ) → read (leaves written t l number) ≡ returned_by t number
    reads t number =
        let m = reading_by t number in
        let c = counts t number in
        let w = laid m in
        rw (
          leaves_by blank t number,
          w.0,
          w.1,
          w.2,
          w.3,
          overlay_take (frames_of m.nuclei) (nuclei l) (c.0 ∙ sym (framed m.nuclei)),
          overlay_take (frames_of m.extras) (extras l) (c.1 ∙ sym (framed m.extras)),
          overlay_take m.edges (edges l) c.2,
          overlay_take m.boundaries (bounds l) c.3,
        )

    pub demanded : (t : Take) (o : LeftOf L) → o ≡ leaves written t l (refusal t) → Demanded (λ (t : Take). leaves written t l (refusal t)) read (as_lent t l) t o
    demanded t o e =
        let n = refusal t in
        let r : read o ≡ returned_by t n = ap read e ∙ reads t n in
        let number : (read o).answer.refusal ≡ n = ap (λ (x : Returned). x.answer.refusal) r ∙ number_by t n in
        record {
          alike = λ k nonzero other p. p ∙ left_scaled k nonzero t (refusal (scaled k t)) ∙ ap (leaves written t l) (number-alike k t) ∙ sym e;
          kept = λ f. subst (BoundariesKept t) (sym r) (kept_by t n (sym (ap (λ (x : Returned). x.answer.found) r) ∙ f));
          pitches = λ z. let z' : n ≡ 0 = sym number ∙ z in subst (λ (x : Returned). PitchesKept t x.pitch) (sym r) (kept_pitches_by t n z' (λ h. admits t h z'));
          ordered = subst (Ordered t) (sym r) (ordered_by t n);
          refused = λ some. e ∙ left_refused t n (λ z. some (number ∙ z)) ∙ ap (as_lent t l) (sym number);
        }

-- the refusal number reads no sample
pub refusal_scaled : (k : ℤ) (t : Take) (a b c d e f : ℕ) → refusal_for (scaled k t) a b c d e f ≡ refusal_for t a b c d e f
refusal_scaled k t a b c d e f = rw (length-map t.samples (λ (z : ℤ). k *ℤ z))

-- ---- over plain lists: the theorem, of every call of the chain by what it answers and leaves
pub chain_demanded : (l : Lists) (t : Take) (o : Left) → o ≡ chain_of t l → Demanded (λ (t : Take). chain_of t l) returned (as_lent t l) t o
unfolding chain_of
chain_demanded l = demanded written l _ _ _ _ (λ pitch. nothing_written pitch l) (λ (t : Take). refusal_of t l) (λ k t. refusal_scaled k t _ _ _ _ _ _) (λ m. (refl, refl, refl, refl)) (λ t. pitches_admitted t _ _ _ _ _ _)
