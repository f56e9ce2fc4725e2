-- What each stage's entry answers and leaves, whatever it is given. Definitions only.
use Rattle.std.specs.Prelude.{ℕ, zero, suc, ◌≡◌, true, false, List, [], ℤ, length, Option, None, Some, Result, Ok, Err, Float}
use Rattle.lists.specs.Results.{Listed}
use Rattle.region.specs.Defaults.{defaults}
use Rattle.region.specs.Speech.{marks_of, region_of}
use Rattle.region.specs.declared.Settings.{Settings}
use Rattle.region.specs.declared.Region.{Region}
use Rattle.repair.specs.Repair.{repaired}
use Rattle.recover.specs.Recovered.{recovered}
use Rattle.nuclei.specs.Nuclei.{Nucleus, nuclei_of, frames_of, strengths_of}
use Rattle.boundaries.specs.Boundaries.{boundaries_of}
use Rattle.extra.specs.Extra.{extras_of, edges_of}
use Rattle.extra.specs.declared.Counts.{Counts}
use Rattle.admit.specs.declared.numbers.Refusal.{Refusal}
use Rattle.admit.specs.Numbers.{number_at}
use Rattle.admit.specs.Refusals.{speech_refusal, region_refusal, repair_refusal, recovery_refusal, nuclei_refusal, extras_refusal, boundaries_refusal, boundaries_with_refusal}
use Rattle.entries.specs.declared.stages.Answer.{Answer}
use Rattle.entries.specs.declared.stages.Spanned.{Spanned}
use Rattle.entries.specs.declared.stages.Counted.{Counted}

-- by its refusal number: what an admitted call finds, and what a refused one answers or leaves instead
unfoldable pub if_admitted : {A : Type 0} → ℕ → A → A → A
if_admitted zero found instead = found
if_admitted (suc k) found instead = instead

-- ---- what a call returns and leaves, as its contract says: `old` is lent, `new` comes back

-- the number, and what is found in the one list that is lent, or nothing
abbrev pub Answered : {A : Type 0} → ℕ → List A → List A → List A → Answer → Type 0
Answered number found old new r = (r.refusal ≡ number) × Listed (if_admitted number found []) old new r.count

-- the number, and what is made of the track that is lent, or the track as it was
abbrev pub InPlace : ℕ → List Float → List Float → List Float → ℕ → Type 0
InPlace number found old new r = (r ≡ number) × (new ≡ if_admitted number found old)

-- the number and the values that stand for a region: its two ends, or that none is found and 0 for both
unfoldable pub spanned : ℕ → Option Region → Spanned
spanned refusal None = record { refusal = refusal; found = false; start = 0; end = 0 }
spanned refusal (Some r) = record { refusal = refusal; found = true; start = r.start; end = r.end }

-- ---- the numbers that stand for what an entry answers, as C callers get them
-- a refusal, or a count
abbrev pub answer_of : Result ℕ Refusal → Answer
answer_of (Ok n) = record { refusal = 0; count = n }
answer_of (Err r) = record { refusal = number_at r; count = 0 }

-- a refusal, or what is found of a region
abbrev pub spanned_of : Result (Option Region) Refusal → Spanned
spanned_of (Ok found) = spanned 0 found
spanned_of (Err r) = spanned (number_at r) None

-- a refusal, or two counts
abbrev pub counted_of : Result Counts Refusal → Counted
counted_of (Ok n) = record { refusal = 0; extras = n.extras; edges = n.edges }
counted_of (Err r) = record { refusal = number_at r; extras = 0; edges = 0 }

-- ---- of each entry

-- `speech_marks`
abbrev pub MarksCall : List Float → Settings → List ℕ → List ℕ → Answer → Type 0
MarksCall db p old new r = Answered (speech_refusal db p (length old)) (marks_of db p) old new r

-- `region`
abbrev pub RegionCall : List Float → Settings → Spanned → Type 0
RegionCall db p r = let number = region_refusal db p in r ≡ spanned number (if_admitted number (region_of db p) None)

-- `repair`
abbrev pub RepairCall : List Float → List Float → ℕ → Type 0
RepairCall old new r = InPlace (repair_refusal old) (repaired old) old new r

-- `recover`
abbrev pub RecoverCall : List ℤ → List ℕ → List ℕ → List Float → List Float → ℕ → Type 0
RecoverCall samples speech vowel old new r = InPlace (recovery_refusal old (length samples) speech vowel) (recovered old samples speech vowel) old new r

-- `nuclei`, into frames and strengths
abbrev pub NucleiCall : List Float → List Float → ℕ → ℕ → Settings → List ℕ → List ℕ → List Float → List Float → Answer → Type 0
NucleiCall db pitch start end p old_frames new_frames old_strengths new_strengths r =
    let number = nuclei_refusal db pitch start end p (length old_frames) (length old_strengths) in
    let found = if_admitted number (nuclei_of db pitch start end p) [] in
    (r.refusal ≡ number) × Listed (frames_of found) old_frames new_frames r.count × Listed (strengths_of found) old_strengths new_strengths r.count

-- `extras`, into frames, strengths and edges
abbrev pub ExtrasCall : List Float → List Float → List Float → ℕ → ℕ → List ℕ → Settings → List ℕ → List ℕ → List Float → List Float → List ℕ → List ℕ → Counted → Type 0
ExtrasCall db pitch sonority start end nuclei p old_frames new_frames old_strengths new_strengths old_edges new_edges r =
    let number = extras_refusal db pitch sonority start end nuclei p (length old_frames) (length old_strengths) (length old_edges) in
    let found = if_admitted number (extras_of db pitch sonority start end nuclei p) [] in
    let edges = if_admitted number (edges_of db pitch sonority start end nuclei p) [] in
    (r.refusal ≡ number)
    × Listed (frames_of found) old_frames new_frames r.extras
    × Listed (strengths_of found) old_strengths new_strengths r.extras
    × Listed edges old_edges new_edges r.edges

-- `boundaries_with`
abbrev pub BoundariesWithCall : List Float → List Float → List Float → ℕ → ℕ → List ℕ → Settings → List ℕ → List ℕ → Answer → Type 0
BoundariesWithCall db pitch voiced start end nuclei p old new r =
    Answered (boundaries_with_refusal db pitch voiced start end nuclei p (length old)) (boundaries_of db pitch voiced start end nuclei p) old new r

-- `boundaries`
abbrev pub BoundariesCall : List Float → List Float → List Float → ℕ → ℕ → List ℕ → List ℕ → List ℕ → Answer → Type 0
BoundariesCall db pitch voiced start end nuclei old new r =
    Answered (boundaries_refusal db pitch voiced start end nuclei (length old)) (boundaries_of db pitch voiced start end nuclei defaults) old new r

-- what a refused call leaves of a lent list whose count is r
pub record Unchanged {A : Type 0} (old new : List A) (r : ℕ) : Type 0 where
  pub count : r ≡ 0
  pub entries : new ≡ old

-- ---- what a call finds, into lists of so many entries, for contracts over other lists
abbrev pub nuclei_entry : List Float → List Float → ℕ → ℕ → Settings → ℕ → ℕ → List Nucleus
nuclei_entry db pitch start end p frames strengths = if_admitted (nuclei_refusal db pitch start end p frames strengths) (nuclei_of db pitch start end p) []

abbrev pub extras_entry : List Float → List Float → List Float → ℕ → ℕ → List ℕ → Settings → ℕ → ℕ → ℕ → List Nucleus
extras_entry db pitch sonority start end nuclei p frames strengths edges =
    if_admitted (extras_refusal db pitch sonority start end nuclei p frames strengths edges) (extras_of db pitch sonority start end nuclei p) []

abbrev pub edges_entry : List Float → List Float → List Float → ℕ → ℕ → List ℕ → Settings → ℕ → ℕ → ℕ → List ℕ
edges_entry db pitch sonority start end nuclei p frames strengths edges =
    if_admitted (extras_refusal db pitch sonority start end nuclei p frames strengths edges) (edges_of db pitch sonority start end nuclei p) []
