-- The voiced peaks of the level in the region, each on the voiced run that it belongs to. Definitions only.
use Rattle.std.specs.Prelude.{ℕ, ◌+◌, ◌-◌, min, Bool, ◌&&◌, cond, List, map, length, ltb, Float, Option, None, Some}
use Rattle.std.specs.Float.Ieee.{le}
use Rattle.lists.specs.Results.{filter}
use Rattle.lists.specs.Frames.{at, some_frame}
use Rattle.smooth.specs.Extrema.{inside, local_extrema}
use Rattle.smooth.specs.declared.extrema.Extremum.TheVariants.{Max}
use Rattle.runs.specs.declared.voiced.Span.{Span}
use Rattle.runs.specs.Runs.{voiced}
use Rattle.runs.specs.Near.{run_of}
use Rattle.runs.specs.declared.near.Found.{Found}
use Rattle.region.specs.declared.Bounds.{Bounds}

-- some frame of the n that there are passes and is within 2 of frame i
abbrev pub some_near : (ℕ → Bool) → ℕ → ℕ → Bool
some_near t n i = some_frame t (i - 2) (min (i + 3) n - (i - 2))

-- some frame within 2 of frame i has a pitch
unfoldable pub pitch_near : List Float → ℕ → Bool
pitch_near pitch i = some_near (voiced pitch) (length pitch) i

-- speech by the level: a frame of the region whose level reaches the threshold
unfoldable pub speech_by_level : List Float → Bounds → ℕ → Bool
speech_by_level s b i = inside b.start b.end i && le b.threshold (at s i)

-- the test that a peak of the level passes to be a candidate
unfoldable pub voiced_peak : List Float → List Float → Bounds → ℕ → Bool
voiced_peak s pitch b i = pitch_near pitch i && speech_by_level s b i

-- the frame of a run that is nearest to frame i
abbrev pub clamp_to : Span → ℕ → ℕ
clamp_to r i = cond (ltb i r.first) r.first (cond (ltb r.last i) r.last i)

-- frame i moved onto the run that is found, if it is speech there
abbrev pub moved : List Float → Bounds → Option Found → ℕ → ℕ
moved s b (Some f) i = cond (speech_by_level s b (clamp_to f.run i)) (clamp_to f.run i) i
moved s b None i = i

-- frame i moved onto its run
unfoldable pub onto_run : List Float → Bounds → List Span → ℕ → ℕ
onto_run s b rs i = moved s b (run_of rs i) i

-- those of some peaks that are voiced, each moved onto its run
unfoldable pub peaks_onto : List Float → List Float → Bounds → List Span → List ℕ → List ℕ
peaks_onto s pitch b rs peaks = map (onto_run s b rs) (filter (voiced_peak s pitch b) peaks)

-- the voiced peaks of the level, each moved onto its run
unfoldable pub voiced_peaks : List Float → List Float → Bounds → List Span → List ℕ
voiced_peaks s pitch b rs = peaks_onto s pitch b rs (local_extrema s b.start b.end Max)
