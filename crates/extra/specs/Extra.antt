-- The syllables of a take that the nuclei miss, and their edges. Definitions only.
use Rattle.std.specs.Prelude.{ℕ, ◌≤◌, ◌≡◌, Bool, ◌||◌, cond, List, [], ◌∷◌, ◌++◌, map, eqb, length, Float}
use Rattle.lists.specs.Results.{Listed, cons_if, filter}
use Rattle.lists.specs.Marks.{member, in_order}
use Rattle.smooth.specs.Level.{levels}
use Rattle.smooth.specs.Extrema.{argmin_middle}
use Rattle.region.specs.Percentile.{floor_of}
use Rattle.region.specs.Speech.{bounds_over}
use Rattle.region.specs.declared.Settings.{Settings}
use Rattle.runs.specs.Runs.{long_runs}
use Rattle.region.specs.declared.Bounds.{Bounds}
use Rattle.nuclei.specs.Nuclei.{Nucleus, nucleus_at, over_floor, frames_of, strengths_of}
use Rattle.extra.specs.declared.Counts.{Counts}
use Rattle.extra.specs.Unpitched.{unpitched_peaks}
use Rattle.extra.specs.Merging.{anchors}
use Rattle.extra.specs.Seconds.{frame_of, edge_of, seconds}

-- the edges between neighbouring anchors of which one at least is an unpitched peak, each at the level's minimum
unfoldable pub edges_between : List Float → (ℕ → Bool) → List ℕ → List ℕ
edges_between s peak [] = []
edges_between s peak (a ∷ []) = []
edges_between s peak (a ∷ b ∷ bs) = cons_if (peak a || peak b) (argmin_middle s a b) (edges_between s peak (b ∷ bs))

-- ---- by the unpitched peaks and the kept anchors
-- the frames of the extras: the unpitched peaks that are kept, and the second syllables of the long runs
unfoldable pub extras_from : List Float → List Float → List ℕ → List ℕ → List ℕ
extras_from pitch son peaks kept = filter (member peaks) kept ++ map frame_of (seconds son kept (long_runs pitch))

-- their edges
unfoldable pub edges_from : List Float → List Float → List Float → List ℕ → List ℕ → List ℕ
edges_from s pitch son peaks kept = edges_between s (member peaks) kept ++ map edge_of (seconds son kept (long_runs pitch))

-- ---- by the level, in a region
-- the frames of the extras, in order
unfoldable pub extra_frames : List Float → List Float → List Float → Bounds → Settings → List ℕ → List ℕ
extra_frames s pitch son b p nuclei =
    let peaks = unpitched_peaks s pitch son b in
    in_order (extras_from pitch son peaks (anchors s p nuclei peaks)) (length s)

-- their edges, in order, each once
unfoldable pub extra_edges : List Float → List Float → List Float → Bounds → Settings → List ℕ → List ℕ
extra_edges s pitch son b p nuclei =
    let peaks = unpitched_peaks s pitch son b in
    in_order (edges_from s pitch son peaks (anchors s p nuclei peaks)) (length s)

-- ---- of a take
-- a result of a sonority as long as the track; none of another
abbrev pub if_as_long {ℓ} : {A : Type ℓ} → List Float → List Float → List A → List A
if_as_long db son res = cond (eqb (length son) (length db)) res []

-- the extras of a take in the region start .. end, beside its nuclei
unfoldable pub extras_of : List Float → List Float → List Float → ℕ → ℕ → List ℕ → Settings → List Nucleus
extras_of db pitch son start end nuclei p = if_as_long db son (over_floor (floor_of db) (λ x. map (nucleus_at (levels db) x) (extra_frames (levels db) pitch son (bounds_over x p start end) p nuclei)))

-- their edges
unfoldable pub edges_of : List Float → List Float → List Float → ℕ → ℕ → List ℕ → Settings → List ℕ
edges_of db pitch son start end nuclei p = if_as_long db son (over_floor (floor_of db) (λ x. extra_edges (levels db) pitch son (bounds_over x p start end) p nuclei))

-- ---- in the contracts
-- level, pitch and sonority of one track
abbrev pub SameLength : List Float → List Float → List Float → Type 0
SameLength s pitch son = (length s ≤ 2048) × (length pitch ≡ length s) × (length son ≡ length s)

-- what a call leaves that writes extras and their edges to three lists, and returns how many they are
abbrev pub ExtrasListed : List Nucleus → List ℕ → List ℕ → List ℕ → List Float → List Float → List ℕ → List ℕ → Counts → Type 0
ExtrasListed extras edges old_frames frames old_strengths strengths old_edges new_edges r =
    Listed (frames_of extras) old_frames frames r.extras × Listed (strengths_of extras) old_strengths strengths r.extras × Listed edges old_edges new_edges r.edges
