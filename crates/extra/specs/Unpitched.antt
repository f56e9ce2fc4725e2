-- Peaks of the level that sound like a vowel and have no pitch. Definitions only.
use Rattle.std.specs.Prelude.{ℕ, Bool, ◌&&◌, not, List, Float}
use Rattle.std.specs.Float.Ieee.{le}
use Rattle.floats.specs.Plain.{half}
use Rattle.lists.specs.Results.{filter}
use Rattle.smooth.specs.Level.{five_around, mean_of}
use Rattle.smooth.specs.Extrema.{local_extrema}
use Rattle.smooth.specs.declared.extrema.Extremum.TheVariants.{Max}
use Rattle.region.specs.declared.Bounds.{Bounds}
use Rattle.nuclei.specs.Peaks.{pitch_near, speech_by_level}

-- frame i sounds like a vowel: averaged up to 2 frames to each side, the sonority is 0.5 or more
unfoldable pub vowel_like : List Float → ℕ → Bool
vowel_like son i = le half (mean_of (five_around son i))

-- the test that a peak of the level passes: speech, no pitch within 2 frames, and vowel-like
unfoldable pub unpitched : List Float → List Float → List Float → Bounds → ℕ → Bool
unpitched s pitch son b i = speech_by_level s b i && (not (pitch_near pitch i) && vowel_like son i)

-- the unpitched peaks of the level in the region, in order
unfoldable pub unpitched_peaks : List Float → List Float → List Float → Bounds → List ℕ
unpitched_peaks s pitch son b = filter (unpitched s pitch son b) (local_extrema s b.start b.end Max)
