-- Scaffolding of the code's loops: the frames of a run by their places in it, their pitches by their places in the total order, and what is written to a track. Definitions only.
use Rattle.std.specs.Prelude.{ℕ, ◌+◌, ◌-◌, ◌≤◌, ◌<◌, ◌≡◌, Bool, cond, List, ◌++◌, ltb, length, get_or, take, drop, Float}
use Rattle.std.specs.Float.{nan}
use Rattle.floats.specs.Total.{total_key, value_of}
use Rattle.lists.specs.Marks.{member}
use Rattle.powers.specs.Pitch.{Between}
use Rattle.runs.specs.declared.voiced.Span.{Span}
use Rattle.lists.specs.Frames.{at}
use Rattle.repair.specs.Repair.{voiced_in, last_few, repaired_in}

-- the neighbours of the frame at place p of a run: of the run's frames, or of what belongs to each of them
abbrev pub around : {A : Type 0} → List A → ℕ → List A
around run p = last_few 5 (take p run) ++ take 5 (drop (p + 1) run)

-- k is the place of a pitch from 40 to 2,000 Hz in the total order
abbrev pub PitchPlace : ℕ → Type 0
PitchPlace k = (total_key (value_of k) ≡ k) × Between 40 2000 (value_of k)

-- x is far from place k: more than half the places of an octave away
abbrev pub far : ℕ → ℕ → Bool
far k x = ltb 4194304 (x - k + (k - x))

-- the place of the pitch of frame i
abbrev pub key_at : List Float → ℕ → ℕ
key_at pitch i = total_key (at pitch i)

-- a run of the track with 5 voiced frames or more
pub record LongIn (pitch : List Float) (r : Span) : Type 0 where
  pub order : r.first ≤ r.last
  pub within : r.last < length pitch
  pub frames : 5 ≤ length (voiced_in pitch r)

-- what a call leaves that writes a value for each of the frames: `old` is lent, `new` comes back
abbrev pub Written : (ℕ → Float) → List ℕ → List Float → List Float → Type 0
Written value frames old new = (i : ℕ) → get_or new i nan ≡ cond (member frames i) (value i) (get_or old i nan)

-- such a call for the voiced frames of a run, with their repaired pitches
abbrev pub RunWritten : List Float → Span → List Float → List Float → Type 0
RunWritten pitch r = Written (repaired_in pitch (voiced_in pitch r)) (voiced_in pitch r)
