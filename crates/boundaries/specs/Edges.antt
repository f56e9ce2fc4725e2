-- Pause edges, creaks and voicing edges. Definitions only.
use Rattle.std.specs.Prelude.{ℕ, ◌+◌, ◌-◌, Bool, false, not, ◌&&◌, ◌||◌, cond, List, [], ◌∷◌, map, get_or, ltb, leb, Float}
use Rattle.std.specs.Float.{nan, binary32}
use Rattle.std.specs.Float.Ieee.{sub, unlike}
use Rattle.floats.specs.Plain.{magnitude, or_zero}
use Rattle.lists.specs.Results.{keep, filter}
use Rattle.lists.specs.Frames.{all_frames}
use Rattle.lists.specs.Candidates.{Candidate}
use Rattle.region.specs.Speech.{speech_at}
use Rattle.runs.specs.Runs.{voiced}
use Rattle.runs.specs.declared.voiced.Span.{Span}
use Rattle.runs.specs.Syllables.{dropouts}

-- the frames strictly between start and end that pass
unfoldable pub between : ℕ → ℕ → (ℕ → Bool) → List ℕ
between start end t = keep t (start + 1) (end - (start + 1))

-- a test changes from the frame before to frame i
abbrev pub changed : (ℕ → Bool) → ℕ → Bool
changed t i = unlike (t (i - 1)) (t i)

-- |x - y| in f32
abbrev pub jump : Float → Float → Float
jump x y = magnitude (sub binary32 x y)

-- ---- pauses
-- of the frames beside the change at frame i, the one that is speech
abbrev pub loud_beside : List Float → Float → ℕ → ℕ
loud_beside db threshold i = cond (speech_at threshold db i) i (i - 1)

-- the edge there; it weighs the jump in dB as given, where dB that is not finite reads as 0
abbrev pub pause_edge : List Float → Float → ℕ → Candidate
pause_edge db threshold i = record { frame = loud_beside db threshold i; weight = jump (or_zero (get_or db i nan)) (or_zero (get_or db (i - 1) nan)) }

-- the edges of pauses inside the region
unfoldable pub pause_edges : List Float → Float → ℕ → ℕ → List Candidate
pause_edges db threshold start end = map (pause_edge db threshold) (between start end (changed (speech_at threshold db)))

-- ---- creaks
-- each frame inside a gap passes
abbrev pub filled : (ℕ → Bool) → Span → Bool
filled t g = all_frames t (g.first + 1) (g.last - (g.first + 1))

-- the creaks: dropouts whose frames are all speech
unfoldable pub creaks : List Float → (ℕ → Bool) → List Span
creaks pitch speech = filter (filled speech) (dropouts pitch)

-- a frame lies in one of the gaps, or is the first after it
unfoldable pub in_creak : List Span → ℕ → Bool
in_creak [] at = false
in_creak (g ∷ gs) at = (ltb g.first at && leb at g.last) || in_creak gs at

-- ---- voicing
-- the first frame of the new state; it weighs the jump in voiced_p, which the track `voicing` holds
abbrev pub voicing_edge : List Float → ℕ → Candidate
voicing_edge voicing i = record { frame = i; weight = or_zero (jump (get_or voicing i nan) (get_or voicing (i - 1) nan)) }

-- the frames inside the region, but not those to skip, where the voicing changes
unfoldable pub voicing_edges : List Float → List Float → (ℕ → Bool) → ℕ → ℕ → List Candidate
voicing_edges pitch voicing skip start end = map (voicing_edge voicing) (between start end (λ i. changed (voiced pitch) i && not (skip i)))
