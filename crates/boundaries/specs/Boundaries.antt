-- The boundaries of a take. Definitions only.
use Rattle.std.specs.Prelude.{ℕ, ◌+◌, ◌*◌, ◌≤◌, ◌≡◌, Bool, List, ◌++◌, length, Float}
use Rattle.lists.specs.Sorted.{sorted}
use Rattle.lists.specs.Candidates.{in_turn}
use Rattle.smooth.specs.Level.{levels}
use Rattle.region.specs.Speech.{speech_at, threshold_of}
use Rattle.region.specs.declared.Settings.{Settings}
use Rattle.region.specs.declared.Bounds.{Bounds}
use Rattle.runs.specs.Syllables.{syllable_runs}
use Rattle.boundaries.specs.Keeping.{add_all, ends}
use Rattle.boundaries.specs.Joints.{joints_inside}
use Rattle.boundaries.specs.Edges.{pause_edges, creaks, in_creak, voicing_edges}
use Rattle.boundaries.specs.Minima.{minima}

-- at most so many boundaries, by the number of nuclei that are given
abbrev pub cap_of : List ℕ → ℕ
cap_of nuclei = 4 * length nuclei + 2

-- the frames that voicing edges and minima skip: those in creaks
abbrev pub creaky : List Float → List Float → Float → ℕ → Bool
creaky db pitch threshold = in_creak (creaks pitch (speech_at threshold db))

-- the candidates that come before the minima, those of the higher priority first: joints, pause edges, voicing edges
abbrev pub edges : List Float → List Float → List Float → List Float → Bounds → Float → (ℕ → Bool) → List ℕ → List ℕ
edges db level pitch voicing b dip skip nuclei =
    joints_inside level (syllable_runs pitch) dip b.start b.end nuclei ++ (in_turn (pause_edges db b.threshold b.start b.end) ++ in_turn (voicing_edges pitch voicing skip b.start b.end))

-- what is kept in the end of a region's ends, these candidates and the minima in the spans that they leave, in order
unfoldable pub chosen : ℕ → ℕ → ℕ → List ℕ → (List ℕ → List ℕ) → List ℕ
chosen cap start end candidates minima_of =
    let kept = add_all cap (ends start end) candidates in
    sorted (add_all cap kept (minima_of (sorted kept)))

-- the boundaries of a region, by the level and the threshold
unfoldable pub boundaries_in : List Float → List Float → List Float → List Float → Bounds → Float → List ℕ → List ℕ
boundaries_in db level pitch voicing b dip nuclei =
    let skip = creaky db pitch b.threshold in
    chosen (cap_of nuclei) b.start b.end (edges db level pitch voicing b dip skip nuclei) (λ kept. in_turn (minima level skip kept))

-- of a take, under the settings
abbrev pub boundaries_of : List Float → List Float → List Float → ℕ → ℕ → List ℕ → Settings → List ℕ
boundaries_of db pitch voicing start end nuclei p = boundaries_in db (levels db) pitch voicing (record { threshold = threshold_of db p; start = start; end = end }) p.dip nuclei

-- a region of a track, and level, pitch and voicing as long as the track
abbrev pub RegionTracks : List Float → List Float → List Float → List Float → Bounds → Type 0
RegionTracks db level pitch voicing b = (b.start ≤ b.end) × (b.end ≤ length db) × (length db ≤ 2048) × (length level ≡ length db) × (length pitch ≡ length db) × (length voicing ≡ length db)
