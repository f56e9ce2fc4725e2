-- The parts' results together are the whole's, and what a part asks for holds of the results before it. Assumes nothing.
use Prim.Native.Nat.{ℕ, ◌+◌, ◌*◌, ◌<◌, ◌≤◌}
use mathlib.Core.Path.{◌≡◌, sym, ap, ◌∙◌}
use mathlib.Core.List.{List, [], ◌++◌, map}
use lib.ListN.{length, get_or, length-map}
use Rattle.std.proofs.lemmas.List.{get_or-take}
use native.Mathlib.Omega.{arith}
use lib.Ieee.{Float}
use borrow.Author.Tests.{eq-eqb, ne_eqb}
use Rattle.lists.specs.Results.{Listed}
use Rattle.lists.specs.Sorted.{StrictlyRises}
use Rattle.lists.specs.Marks.{member, in_order}
use Rattle.lists.proofs.Fill.{listed_take}
use Rattle.lists.proofs.Members.{strict_get, in_order_is, in_order_few}
use Rattle.smooth.specs.Level.{levels}
use Rattle.region.specs.Percentile.{floor_of}
use Rattle.region.specs.Speech.{bounds_over}
use Rattle.region.specs.declared.Settings.{Settings}
use Rattle.std.specs.Prelude.{None, Some}
use Rattle.nuclei.specs.Nuclei.{nucleus_at, strengths_of}
use Rattle.nuclei.proofs.Merge.{merged_rises}
use Rattle.nuclei.proofs.Whole.{listed_nothing}
use Rattle.runs.specs.Runs.{long_runs}
use Rattle.runs.proofs.Spacing.{long_few}
use Rattle.extra.specs.declared.seconds.Second.{Second}
use Rattle.extra.specs.Merging.{one_syllable, survivor, anchors}
use Rattle.extra.specs.Seconds.{seconds}
use Rattle.extra.specs.declared.Counts.{Counts}
use Rattle.extra.specs.Extra.{ExtrasListed, extra_frames, extra_edges, extras_of, edges_of}
use Rattle.extra.proofs.Anchoring.{survivor_picks}
use Rattle.extra.proofs.Holding.{seconds_few}

-- ---- frames that are written in order
pub strengths_few : (s : List Float) (x : Float) (cs : List ℕ) (n : ℕ) → length (strengths_of (map (nucleus_at s x) (in_order cs n))) ≤ n
strengths_few s x cs n = simp length-map (in_order_few cs n)

module _ (cs : List ℕ) (n : ℕ) {old new : List ℕ} {r : ℕ} (l : Listed (in_order cs n) old new r) (i : ℕ) (h : i < r) where
  pub ordered_at : get_or new i 0 ≡ get_or (in_order cs n) i 0
  ordered_at = sym (get_or-take r new i 0 h) ∙ ap (λ (xs : List ℕ). get_or xs i 0) (listed_take l)

  pub ordered_in : get_or new i 0 < n
  ordered_in = rw ordered_at (strict_get 0 n (in_order cs n) i (omega (arith, l.count)) (in_order_is cs n).rises)

-- ---- the kept anchors
pub anchors_rise : (s : List Float) (p : Settings) (nuclei peaks : List ℕ) → StrictlyRises 0 (length s) (anchors s p nuclei peaks)
unfolding anchors
anchors_rise s p nuclei peaks =
    merged_rises (one_syllable s p (member peaks)) (survivor s (member peaks)) (survivor_picks s (member peaks)) (length s) (in_order (nuclei ++ peaks) (length s)) (in_order_is (nuclei ++ peaks) (length s)).rises

-- ---- the second syllables of a take: one a long run at most, and each run begins 4 frames or more after the one before it
pub seconds_fit : (pitch son : List Float) (kept : List ℕ) → 4 * length (seconds son kept (long_runs pitch)) ≤ length pitch + 3
seconds_fit pitch son kept = omega (arith, seconds_few son kept (long_runs pitch), long_few pitch)

-- so a list that holds them has no more of them than the take has frames
pub seconds_count : {A : Type 0} (g : Second → A) (pitch son : List Float) (kept : List ℕ) {old new : List A} {j : ℕ} → Listed (map g (seconds son kept (long_runs pitch))) old new j → j ≤ length pitch
seconds_count g pitch son kept l = omega (arith, l.count, length-map (seconds son kept (long_runs pitch)) g, seconds_fit pitch son kept)

-- ---- the extras of a take
module _ (db pitch son : List Float) (start end : ℕ) (nuclei : List ℕ) (p : Settings) where
  -- what a call leaves
  abbrev pub Written : List ℕ → List ℕ → List Float → List Float → List ℕ → List ℕ → Counts → Type 0
  Written = ExtrasListed (extras_of db pitch son start end nuclei p) (edges_of db pitch son start end nuclei p)

  none : extras_of db pitch son start end nuclei p ≡ [] → edges_of db pitch son start end nuclei p ≡ [] → (frames : List ℕ) (strengths : List Float) (edges : List ℕ) → Written frames frames strengths strengths edges edges (record { extras = 0; edges = 0 })
  none e f frames strengths edges = rw (e, f) (listed_nothing frames, listed_nothing strengths, listed_nothing edges)

  -- a sonority of another length
  pub extras_unlike : (length son ≡ length db → ⊥) → (frames : List ℕ) (strengths : List Float) (edges : List ℕ) → Written frames frames strengths strengths edges edges (record { extras = 0; edges = 0 })
  unfolding extras_of edges_of
  extras_unlike h = none (rw (ne_eqb (length son) (length db) h)) (rw (ne_eqb (length son) (length db) h))

  module _ (h : length son ≡ length db) where
    -- no floor
    pub extras_floorless : floor_of db ≡ None → (frames : List ℕ) (strengths : List Float) (edges : List ℕ) → Written frames frames strengths strengths edges edges (record { extras = 0; edges = 0 })
    unfolding extras_of edges_of
    extras_floorless e = none (rw (eq-eqb (length son) (length db) h, e)) (rw (eq-eqb (length son) (length db) h, e))

    -- over a floor
    pub extras_floored : {x : Float} {frames₀ frames edges₀ edges : List ℕ} {strengths₀ strengths : List Float} {r : Counts} → floor_of db ≡ Some x →
        ExtrasListed (map (nucleus_at (levels db) x) (extra_frames (levels db) pitch son (bounds_over x p start end) p nuclei)) (extra_edges (levels db) pitch son (bounds_over x p start end) p nuclei) frames₀ frames strengths₀ strengths edges₀ edges r →
        Written frames₀ frames strengths₀ strengths edges₀ edges r
    unfolding extras_of edges_of
    extras_floored e w = rw (eq-eqb (length son) (length db) h, e) w
