-- The voiced frames of a pitch track, and the runs that they make. Definitions only.
use Rattle.std.specs.Prelude.{ℕ, ◌+◌, ◌-◌, ◌≤◌, ◌<◌, Bool, List, [], ◌∷◌, map, length, get_or, leb, Float}
use Rattle.std.specs.Float.{nan}
use Rattle.std.specs.Float.Ieee.{ne}
use Rattle.floats.specs.Plain.{zero_f}
use Rattle.lists.specs.Results.{keep, filter}
use Rattle.lists.specs.By.{Each}
use Rattle.lists.specs.Grouped.{grouped}
use Rattle.runs.specs.declared.voiced.Run.{Run}
use Rattle.runs.specs.declared.voiced.Span.{Span}

-- frame i has a pitch; 0 is none
abbrev pub voiced : List Float → ℕ → Bool
voiced pitch i = ne (get_or pitch i nan) zero_f

-- the frames that have a pitch, in order
unfoldable pub voiced_frames : List Float → List ℕ
voiced_frames pitch = keep (voiced pitch) 0 (length pitch)

-- one voiced frame as a run
abbrev pub sole : ℕ → Run
sole f = record { first = f; last = f; size = 1 }

-- from the last frame of a run to the first of the next it is at most 3
abbrev pub close : Run → Run → Bool
close r s = leb (s.first - r.last) 3

-- two neighbouring runs as one
abbrev pub joined : Run → Run → Run
joined r s = record { first = r.first; last = s.last; size = r.size + s.size }

-- the voiced runs, in order: voiced frames that are at most 3 apart share one
unfoldable pub voiced_runs : List Float → List Run
voiced_runs pitch = grouped close joined (map sole (voiced_frames pitch))

-- with 5 voiced frames or more a run is long
abbrev pub long : Run → Bool
long r = leb 5 r.size

-- a run by its first and last frame alone
abbrev pub span_of : ℕ → ℕ → Span
span_of first last = record { first = first; last = last }

-- a voiced run by its two ends
abbrev pub span : Run → Span
span r = span_of r.first r.last

-- the long runs, in order
unfoldable pub long_runs : List Float → List Span
long_runs pitch = map span (filter long (voiced_runs pitch))

-- the runs lie in a track of n frames
abbrev pub InTrack : ℕ → List Span → Type 0
InTrack n = Each (λ r. (r.first ≤ r.last) × (r.last < n))

-- runs of a track of n frames, from frame lo on, in order, each more than 3 frames after the one before it
abbrev pub Spaced : ℕ → ℕ → List Span → Type 0
Spaced lo n [] = Unit
Spaced lo n (r ∷ rs) = (lo ≤ r.first) × (r.first ≤ r.last) × (r.last < n) × Spaced (r.last + 4) n rs

-- a track of at most 2,048 frames, and two lists with an entry at least for each of them
abbrev pub RoomOfTwo : {A B C : Type 0} → List A → List B → List C → Type 0
RoomOfTwo track xs ys = (length track ≤ 2048) × (length track ≤ length xs) × (length track ≤ length ys)
