-- The speech of a track: its threshold, its frames, their marks and the region. Definitions only.
use Rattle.std.specs.Prelude.{ℕ, ◌+◌, Bool, false, cond, ◌&&◌, List, [], ◌∷◌, map, length, ◌==◌, nat_le, slice_index, slice_index_or, Float, Option, None, Some}
use Rattle.std.specs.Float.{nan, inf, binary32}
use Rattle.std.specs.Float.Ieee.{add, lt}
use Rattle.std.specs.Float.Ieee.Scale.{finite}
use Rattle.lists.specs.Results.{keep}
use Rattle.region.specs.declared.Region.{Region}
use Rattle.region.specs.declared.Settings.{Settings}
use Rattle.region.specs.declared.Bounds.{Bounds}
use Rattle.region.specs.Percentile.{floor_of}

-- floor + margin in f32; +infinity where there is no floor, so that there is no speech
abbrev pub threshold_over : Option Float → Float → Float
threshold_over None margin = inf false
threshold_over (Some x) margin = add binary32 x margin

-- of a track, under the settings
abbrev pub threshold_of : List Float → Settings → Float
threshold_of db p = threshold_over (floor_of db) p.margin

-- the region start .. end, with the threshold over a floor
abbrev pub bounds_over : Float → Settings → ℕ → ℕ → Bounds
bounds_over floor p start end = record { threshold = threshold_over (Some floor) p.margin; start = start; end = end }

-- finite and strictly above the threshold
abbrev pub speech : Float → Float → Bool
speech t d = finite d && lt t d

-- whether frame i is speech
abbrev pub speech_at : Float → List Float → ℕ → Bool
speech_at t db i = speech t (slice_index_or db i nan)

-- the speech frames of a track
abbrev pub speech_frames : Float → List Float → List ℕ
speech_frames t db = keep (speech_at t db) 0 (length db)

-- 1 for speech, else 0
abbrev pub mark : Float → Float → ℕ
mark t d = cond (speech t d) 1 0

-- the mark of each frame
abbrev pub speech_marks : Float → List Float → List ℕ
speech_marks t db = map (mark t) db

-- frame i has its mark
abbrev pub marked : List ℕ → ℕ → Bool
marked m i = slice_index m i == 1

-- the marks of a track, under the settings
abbrev pub marks_of : List Float → Settings → List ℕ
marks_of db p = speech_marks (threshold_of db p) db

-- the last of some frames, z where there is none
abbrev pub last_of : ℕ → List ℕ → ℕ
last_of z [] = z
last_of z (x ∷ xs) = last_of x xs

-- from a on and before b
abbrev pub spanning : ℕ → ℕ → Region
spanning a b = record { start = a; end = b }

-- the region of some speech frames, which must be 5 at least: it starts at the first and ends right after the last
unfoldable pub region_in : List ℕ → Option Region
region_in frames = cond (nat_le 5 (length frames)) (Some (spanning (slice_index frames 0) (last_of 0 frames + 1))) None

-- the region of a track, under the settings
abbrev pub region_of : List Float → Settings → Option Region
region_of db p = region_in (speech_frames (threshold_of db p) db)
