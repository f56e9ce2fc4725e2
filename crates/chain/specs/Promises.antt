-- What the chain promises of what a call returns and leaves. Definitions only.
use Rattle.std.specs.Prelude.{ℕ, ◌+◌, ◌≤◌, ◌<◌, ◌≡◌, true, List, map, T, ℤ, pos, ◌*ℤ◌, length, take, replicate, Float}
use Rattle.std.specs.Float.{binary32}
use Rattle.std.specs.Float.Ieee.{fits}
use Rattle.lists.specs.By.{Each, Pairs}
use Rattle.lists.specs.Frames.{at}
use Rattle.lists.specs.Sorted.{StrictlyRises}
use Rattle.smooth.specs.Level.{levels}
use Rattle.region.specs.Speech.{threshold_of}
use Rattle.runs.specs.Runs.{voiced}
use Rattle.runs.specs.Syllables.{syllable_runs}
use Rattle.repair.specs.Repair.{Pitches, repaired}
use Rattle.boundaries.specs.Joints.{joints_inside}
use Rattle.boundaries.specs.Promises.{Promised, pauses_in, most_boundaries}
use Rattle.chain.specs.declared.Marks.{Marks}
use Rattle.chain.specs.Chain.{Take, take_of, LeftOf, Lists, Left}

-- every sample times k
abbrev pub scaled : ℤ → Take → Take
scaled k t = take_of t.db t.pitch t.voiced t.sonority t.vowel (map (λ (z : ℤ). k *ℤ z) t.samples) t.settings

-- what a caller reads off a call: the answer, the pitches as they are left, and of each list the frames that the answer counts
pub record Returned : Type 0 where
  pub answer : Marks
  pub pitch : List Float
  pub nuclei : List ℕ
  pub extras : List ℕ
  pub edges : List ℕ
  pub boundaries : List ℕ

-- by where its lists hold the frames of nuclei and of extras, the edges and the boundaries
abbrev pub returned_in : {L : Type 0} → (L → List ℕ) → (L → List ℕ) → (L → List ℕ) → (L → List ℕ) → LeftOf L → Returned
returned_in nuclei extras edges bounds o =
    let l = o.lists in
    let a = o.answer in
    record { answer = a; pitch = o.pitch; nuclei = take a.nuclei (nuclei l); extras = take a.extras (extras l); edges = take a.edges (edges l); boundaries = take a.boundaries (bounds l) }

-- of a call over plain lists
abbrev pub returned : Left → Returned
returned = returned_in (λ (l : Lists). l.frames) (λ (l : Lists). l.xframes) (λ (l : Lists). l.edges) (λ (l : Lists). l.bounds)

-- ---- the boundaries of a found region
-- the joints of neighbouring nuclei inside the region, by the pitches that are left
abbrev pub joints_of : Take → Returned → List ℕ
joints_of t r = joints_inside (levels t.db) (syllable_runs r.pitch) t.settings.dip r.answer.start r.answer.end r.nuclei

-- how many pauses the region has
abbrev pub pauses : Take → Returned → ℕ
pauses t r = length (pauses_in t.db (threshold_of t.db t.settings) r.answer.start r.answer.end)

-- they rise from the region's start to its end, each joint has one within 2 frames, and they are few: 4 for each nucleus and 2, and so by the pauses too
pub record BoundariesKept (t : Take) (r : Returned) : Type 0 where
  pub promised : Promised r.answer.start r.answer.end r.nuclei (joints_of t r) r.boundaries
  pub few : length r.boundaries ≤ most_boundaries (length r.nuclei) (pauses t r)

-- ---- the pitches, in every call that is not refused
pub record PitchesKept (t : Take) (left : List Float) : Type 0 where
  -- a frame that is given a pitch has it as if nothing was recovered: only the repair of the given track changes it
  pub given : (i : ℕ) → i < length t.pitch → voiced t.pitch i ≡ true → at left i ≡ at (repaired t.pitch) i
  -- without samples, or with samples that are all alike, nothing is recovered
  pub still : (n : ℕ) (z : ℤ) → t.samples ≡ replicate n z → left ≡ repaired t.pitch
  -- each entry is no pitch, or one from 20 to 4,000 Hz, where those given are f32 values
  pub range : Each (λ x. T (fits binary32 x)) t.pitch → Pitches 20 4000 left

-- ---- order, in every call
-- the region lies in the take; nuclei rise in the region, extras and their edges in the take; any two boundaries are over 2 frames apart; each list
-- holds as many as the answer counts, and no more than a list of the take's length, or one more for boundaries
pub record Ordered (t : Take) (r : Returned) : Type 0 where
  pub region : (r.answer.start ≤ r.answer.end) × (r.answer.end ≤ length t.db)
  pub nuclei : StrictlyRises r.answer.start r.answer.end r.nuclei
  pub extras : StrictlyRises 0 (length t.db) r.extras
  pub edges : StrictlyRises 0 (length t.db) r.edges
  pub apart : Pairs (λ a b. a + 2 < b) r.boundaries
  pub counted : (length r.nuclei ≡ r.answer.nuclei) × (length r.extras ≡ r.answer.extras) × (length r.edges ≡ r.answer.edges) × (length r.boundaries ≡ r.answer.boundaries)
  pub fit : (r.answer.nuclei ≤ length t.db) × (r.answer.extras ≤ length t.db) × (r.answer.edges ≤ length t.db) × (r.answer.boundaries ≤ length t.db + 1)

-- ---- all of it, of one call
-- `call` is what the chain answers and leaves of each take, over the lists that are lent; `read` what a caller reads off that; `as_lent` a refusal's number with
-- all that was lent as it was
pub record Demanded {O : Type 0} (call : Take → O) (read : O → Returned) (as_lent : ℕ → O) (t : Take) (o : O) : Type 0 where
  -- the take times a whole number other than 0 is answered alike, and all is left alike
  pub alike : (k : ℤ) → (k ≡ pos 0 → ⊥) → (other : O) → other ≡ call (scaled k t) → other ≡ o
  -- where a region is found, its boundaries keep their promises
  pub kept : (read o).answer.found ≡ true → BoundariesKept t (read o)
  -- where it is not refused, recovery changes no given pitch
  pub pitches : (read o).answer.refusal ≡ 0 → PitchesKept t (read o).pitch
  -- what is returned is in order
  pub ordered : Ordered t (read o)
  -- a refused call leaves all that was lent
  pub refused : ((read o).answer.refusal ≡ 0 → ⊥) → o ≡ as_lent (read o).answer.refusal
