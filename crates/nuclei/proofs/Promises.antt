-- What holds of every nucleus: it is speech by the level, and so in the region; it has a pitch within 2 frames. The nuclei rise strictly, and no two neighbours are one nucleus. Assumes nothing.
use Prim.Native.Nat.{ℕ, ◌+◌, ◌-◌, ◌<◌, ◌≤◌}
use native.Mathlib.Omega.{arith}
use mathlib.Core.Path.{◌≡◌, refl, sym, ap, subst, ◌∙◌}
use mathlib.Core.Bool.{Bool, true, false, not, cond}
use mathlib.Core.List.{List, [], ◌∷◌, map}
use lib.ListN.{length}
use lib.Dec.{leb, ltb}
use lib.Ieee.{Float, binary32, le, add}
use borrow.Author.Tests.{leb-true, ltb-true, ltb-false}
use Rattle.lists.specs.Results.{cons_if, filter}
use Rattle.lists.specs.By.{Each}
use Rattle.lists.specs.Sorted.{StrictlyRises}
use Rattle.lists.specs.Marks.{member, in_order}
use Rattle.lists.proofs.Tests.{and_cases}
use Rattle.lists.proofs.Entries.{each_map, each_all, each_both, each_append, each_filter, each_of_map}
use Rattle.lists.proofs.Members.{each_member, member_each, strict_between, strict_few, in_order_is}
use Rattle.smooth.specs.Level.{levels}
use Rattle.lists.specs.Frames.{at}
use Rattle.smooth.specs.Extrema.{inside, local_extrema}
use Rattle.smooth.specs.declared.extrema.Extremum.TheVariants.{Max}
use Rattle.smooth.proofs.Averages.{length_levels}
use Rattle.smooth.proofs.Best.{middle_within}
use Rattle.region.specs.Percentile.{floor_of}
use Rattle.region.specs.declared.Settings.{Settings}
use Rattle.std.specs.Prelude.{Option, None, Some}
use Rattle.runs.specs.declared.voiced.Span.{Span}
use Rattle.runs.specs.Runs.{long_runs}
use Rattle.runs.specs.Syllables.{syllable_runs}
use Rattle.runs.specs.Near.{run_of, Answers}
use Rattle.runs.specs.declared.near.Found.{Found}
use Rattle.runs.proofs.Spacing.{spaced_within, long_spaced}
use Rattle.runs.proofs.Nearest.{run_of_answers, found_each}
use Rattle.region.specs.declared.Bounds.{Bounds}
use Rattle.nuclei.specs.Merging.{Apart}
use Rattle.nuclei.specs.Peaks.{pitch_near, speech_by_level, voiced_peak, clamp_to, moved, onto_run, peaks_onto, voiced_peaks}
use Rattle.nuclei.specs.Tops.{unheld_from, unheld, runs_held, part_first, part_end, top_of, stands_alone, on_flank, has_top, tops_of}
use Rattle.nuclei.specs.Nuclei.{candidates, one_nucleus, louder, nucleus_frames, nucleus_at, nuclei_over, over_floor, nuclei_of, frames_of}
use Rattle.nuclei.proofs.Merge.{merged_each, merged_rises, merged_apart}
use Rattle.nuclei.proofs.Choice.{louder_picks}
use Rattle.nuclei.proofs.Pitched.{PitchedRun, long_pitched}

clamp_within : (r : Span) (i : ℕ) → r.first ≤ r.last → (r.first ≤ clamp_to r i) × (clamp_to r i ≤ r.last)
clamp_within r i h = go (ltb i r.first) refl
  where
    go : (c : Bool) → ltb i r.first ≡ c → (r.first ≤ cond c r.first (cond (ltb r.last i) r.last i)) × (cond c r.first (cond (ltb r.last i) r.last i) ≤ r.last)
    go true e = (omega arith, h)
    go false e = pick (ltb r.last i) refl
      where
        pick : (d : Bool) → ltb r.last i ≡ d → (r.first ≤ cond d r.last i) × (cond d r.last i ≤ r.last)
        pick true q = (h, omega arith)
        pick false q = (ltb-false i r.first e, ltb-false r.last i q)

-- ---- from the candidates to the nuclei
module _ (s pitch : List Float) (rs syllables : List Span) (b : Bounds) (p : Settings) where
  pub nuclei_each : (P : ℕ → Type 0) → Each P (candidates s pitch rs b p.dip) → Each P (nucleus_frames s pitch rs syllables b p)
  unfolding nucleus_frames
  nuclei_each P e =
      let cs = candidates s pitch rs b p.dip in
      let o = in_order_is cs (length s) in
      merged_each (one_nucleus s syllables p) (louder s) (louder_picks s) P (in_order cs (length s))
      (member_each P (in_order cs (length s)) (λ x m. each_member P cs x e (and_cases (ltb x (length s)) (member cs x) (sym (o.holds x) ∙ m)).1))

  -- they rise strictly, below the track's length
  pub nuclei_rise : StrictlyRises 0 (length s) (nucleus_frames s pitch rs syllables b p)
  unfolding nucleus_frames
  nuclei_rise =
      let cs = candidates s pitch rs b p.dip in
      merged_rises (one_nucleus s syllables p) (louder s) (louder_picks s) (length s) (in_order cs (length s)) (in_order_is cs (length s)).rises

  -- no two neighbours are one nucleus: they are the gap apart at least
  pub nuclei_apart : Apart (one_nucleus s syllables p) (nucleus_frames s pitch rs syllables b p)
  unfolding nucleus_frames
  nuclei_apart = merged_apart (one_nucleus s syllables p) (louder s) (in_order (candidates s pitch rs b p.dip) (length s))

  -- lists of the track's length have room
  pub nuclei_few : length (nucleus_frames s pitch rs syllables b p) ≤ length s
  nuclei_few = omega (arith, strict_few 0 (length s) (nucleus_frames s pitch rs syllables b p) (omega arith) nuclei_rise)

-- ---- from the peaks and the tops to the candidates
module _ (s pitch : List Float) (b : Bounds) (P : ℕ → Type 0) where
  candidates_each : (rs : List Span) (dip : Float) → ((x : ℕ) → voiced_peak s pitch b x ≡ true → P (onto_run s b rs x)) → (Q : Span → Type 0) → Each Q rs → ((r : Span) → Q r → has_top s b dip r ≡ true → P (top_of s b r)) →
      Each P (candidates s pitch rs b dip)
  unfolding candidates voiced_peaks peaks_onto tops_of unheld unheld_from filter
  candidates_each rs dip onto Q q top =
      let ps = local_extrema s b.start b.end Max in
      let vs = filter (voiced_peak s pitch b) ps in
      let us = unheld_from (runs_held rs (map (onto_run s b rs) vs)) 0 rs in
      each_append P (map (onto_run s b rs) vs) (map (top_of s b) (filter (has_top s b dip) us))
      (each_of_map P (onto_run s b rs) vs (each_map (λ x. voiced_peak s pitch b x ≡ true) (λ x. P (onto_run s b rs x)) onto vs (each_filter (voiced_peak s pitch b) ps)))
      (each_of_map P (top_of s b) (filter (has_top s b dip) us) (both us (unheld_each (runs_held rs (map (onto_run s b rs) vs)) 0 rs q)))
    where
      unheld_each : (held : List ℕ) (k : ℕ) (rs : List Span) → Each Q rs → Each Q (unheld_from held k rs)
      unheld_each held k [] e = tt
      unheld_each held k (r ∷ rs) e = go (not (member held k)) (unheld_each held (k + 1) rs e.1)
        where
          go : (c : Bool) → Each Q (unheld_from held (k + 1) rs) → Each Q (cons_if c r (unheld_from held (k + 1) rs))
          go true g = (e.0, g)
          go false g = g

      both : (us : List Span) → Each Q us → Each (λ r. P (top_of s b r)) (filter (has_top s b dip) us)
      both [] e = tt
      both (u ∷ us) e = go (has_top s b dip u) refl (both us e.1)
        where
          go : (c : Bool) → has_top s b dip u ≡ c → Each (λ r. P (top_of s b r)) (filter (has_top s b dip) us) → Each (λ r. P (top_of s b r)) (cons_if c u (filter (has_top s b dip) us))
          go true h g = (top u e.0 h, g)
          go false h g = g

-- ---- speech by the level
module _ (s pitch : List Float) (rs syllables : List Span) (b : Bounds) (p : Settings) where
  onto_speech : (x : ℕ) → voiced_peak s pitch b x ≡ true → speech_by_level s b (onto_run s b rs x) ≡ true
  unfolding voiced_peak onto_run
  onto_speech x e = go (run_of rs x)
    where
      go : (f : Option Found) → speech_by_level s b (moved s b f x) ≡ true
      go None = (and_cases (pitch_near pitch x) (speech_by_level s b x) e).1
      go (Some f) = pick (speech_by_level s b (clamp_to f.run x)) refl
        where
          pick : (c : Bool) → speech_by_level s b (clamp_to f.run x) ≡ c → speech_by_level s b (cond c (clamp_to f.run x) x) ≡ true
          pick true q = q
          pick false q = (and_cases (pitch_near pitch x) (speech_by_level s b x) e).1

  top_speech : (r : Span) → has_top s b p.dip r ≡ true → speech_by_level s b (top_of s b r) ≡ true
  unfolding has_top stands_alone
  top_speech r e = (and_cases (speech_by_level s b (top_of s b r)) (not (on_flank s p.dip (top_of s b r))) (and_cases (ltb (part_first b r) (part_end b r)) (stands_alone s b p.dip (top_of s b r)) e).1).0

  -- every nucleus is in the region, and its level at or above the threshold
  pub nuclei_speech : Each (λ x. speech_by_level s b x ≡ true) (nucleus_frames s pitch rs syllables b p)
  nuclei_speech =
      nuclei_each s pitch rs syllables b p (λ x. speech_by_level s b x ≡ true)
      (candidates_each s pitch b (λ x. speech_by_level s b x ≡ true) rs p.dip onto_speech (λ r. Unit) (each_all (λ r. Unit) (λ r. tt) rs) (λ r u. top_speech r))

  -- they rise strictly in the region
  pub nuclei_within : b.end ≤ length s → StrictlyRises b.start b.end (nucleus_frames s pitch rs syllables b p)
  unfolding speech_by_level
  nuclei_within h =
      let fs = nucleus_frames s pitch rs syllables b p in
      strict_between 0 (length s) b.start b.end fs (nuclei_rise s pitch rs syllables b p)
      (each_map (λ x. speech_by_level s b x ≡ true) (λ x. (b.start ≤ x) × (x < b.end))
      (λ x e.
      let i = and_cases (leb b.start x) (ltb x b.end) (and_cases (inside b.start b.end x) (le b.threshold (at s x)) e).0 in
      (leb-true b.start x i.0, ltb-true x b.end i.1))
      fs
      nuclei_speech)

-- ---- a pitch near
module _ (s pitch : List Float) (syllables : List Span) (b : Bounds) (p : Settings) (w : b.end ≤ length s) where
  abbrev Voiced : Span → Type 0
  Voiced r = (r.first ≤ r.last) × PitchedRun pitch r

  long_voiced : Each Voiced (long_runs pitch)
  long_voiced =
      each_both (λ (r : Span). (r.first ≤ r.last) × (r.last < length pitch)) (PitchedRun pitch) Voiced (λ r u v. (u.0, v)) (long_runs pitch)
      (spaced_within 0 (length pitch) (long_runs pitch) (long_spaced pitch)) (long_pitched pitch)

  onto_pitched : (x : ℕ) → voiced_peak s pitch b x ≡ true → pitch_near pitch (onto_run s b (long_runs pitch) x) ≡ true
  unfolding voiced_peak onto_run
  onto_pitched x e = go (run_of (long_runs pitch) x) (run_of_answers x (long_runs pitch))
    where
      near : pitch_near pitch x ≡ true
      near = (and_cases (pitch_near pitch x) (speech_by_level s b x) e).0

      go : (f : Option Found) → Answers x (long_runs pitch) f → pitch_near pitch (moved s b f x) ≡ true
      go None a = near
      go (Some f) a = pick (speech_by_level s b (clamp_to f.run x))
        where
          run : Voiced f.run
          run = found_each Voiced (long_runs pitch) x f long_voiced a

          pick : (c : Bool) → pitch_near pitch (cond c (clamp_to f.run x) x) ≡ true
          pick true = run.1 (clamp_to f.run x) (clamp_within f.run x run.0).0 (clamp_within f.run x run.0).1
          pick false = near

  top_pitched : (r : Span) → Voiced r → has_top s b p.dip r ≡ true → pitch_near pitch (top_of s b r) ≡ true
  unfolding has_top top_of
  top_pitched r v e =
      let h : part_first b r < part_end b r = ltb-true (part_first b r) (part_end b r) (and_cases (ltb (part_first b r) (part_end b r)) (stands_alone s b p.dip (top_of s b r)) e).0 in
      let m = middle_within Max s (part_first b r) (part_end b r - 1) (omega arith) (omega arith) in
      v.1 (top_of s b r) (omega (arith, m.0)) (omega (arith, m.1))

  -- every nucleus has a pitch within 2 frames
  pub nuclei_pitched : Each (λ x. pitch_near pitch x ≡ true) (nucleus_frames s pitch (long_runs pitch) syllables b p)
  nuclei_pitched =
      nuclei_each s pitch (long_runs pitch) syllables b p (λ x. pitch_near pitch x ≡ true)
      (candidates_each s pitch b (λ x. pitch_near pitch x ≡ true) (long_runs pitch) p.dip onto_pitched Voiced long_voiced top_pitched)

-- ---- the nuclei of a take
pub over_floor_lem : {A : Type 0} (P : List A → Type 0) (r : Option Float) (over : Float → List A) → P [] → ((x : Float) → P (over x)) → P (over_floor r over)
over_floor_lem P None over n f = n
over_floor_lem P (Some x) over n f = f x

pub frames_back : (s : List Float) (floor : Float) (fs : List ℕ) → frames_of (map (nucleus_at s floor) fs) ≡ fs
frames_back s floor [] = refl
frames_back s floor (f ∷ fs) = ap (λ (l : List ℕ). f ∷ l) (frames_back s floor fs)

module _ (db pitch : List Float) (start end : ℕ) (p : Settings) (w : end ≤ length db) where
  abbrev bounds : Float → Bounds
  bounds x = record { threshold = add binary32 x p.margin; start = start; end = end }

  abbrev frames : Float → List ℕ
  frames x = nucleus_frames (levels db) pitch (long_runs pitch) (syllable_runs pitch) (bounds x) p

  within : end ≤ length (levels db)
  within = omega (arith, length_levels db)

  -- what holds of their frames over any floor, and of none
  by_floor : (P : List ℕ → Type 0) → P [] → ((x : Float) → P (frames x)) → P (frames_of (nuclei_of db pitch start end p))
  unfolding nuclei_of nuclei_over
  by_floor P n f = over_floor_lem (λ ns. P (frames_of ns)) (floor_of db) (λ x. map (nucleus_at (levels db) x) (frames x)) n (λ x. subst P (sym (frames_back (levels db) x (frames x))) (f x))

  -- they rise strictly in the region
  pub take_rises : StrictlyRises start end (frames_of (nuclei_of db pitch start end p))
  take_rises = by_floor (StrictlyRises start end) tt (λ x. nuclei_within (levels db) pitch (long_runs pitch) (syllable_runs pitch) (bounds x) p within)

  -- they are no more than the frames of the take
  pub take_few : length (frames_of (nuclei_of db pitch start end p)) ≤ length db
  take_few = by_floor (λ fs. length fs ≤ length db) (omega arith) (λ x. omega (arith, nuclei_few (levels db) pitch (long_runs pitch) (syllable_runs pitch) (bounds x) p, length_levels db))

  -- each has a pitch within 2 frames
  pub take_pitched : Each (λ x. pitch_near pitch x ≡ true) (frames_of (nuclei_of db pitch start end p))
  take_pitched = by_floor (Each (λ x. pitch_near pitch x ≡ true)) tt (λ x. nuclei_pitched (levels db) pitch (syllable_runs pitch) (bounds x) p within)
