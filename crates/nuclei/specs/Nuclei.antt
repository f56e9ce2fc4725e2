-- The nuclei of a take. Definitions only.
use Rattle.std.specs.Prelude.{ℕ, ◌-◌, Bool, ◌&&◌, ◌||◌, not, cond, List, [], ◌++◌, map, length, ltb, Float, Option, None, Some}
use Rattle.std.specs.Float.{binary32}
use Rattle.std.specs.Float.Ieee.{le, sub}
use Rattle.lists.specs.Results.{Listed}
use Rattle.lists.specs.Marks.{in_order}
use Rattle.smooth.specs.Level.{levels}
use Rattle.lists.specs.Frames.{at}
use Rattle.smooth.specs.Extrema.{shallow}
use Rattle.region.specs.Percentile.{floor_of}
use Rattle.region.specs.Speech.{bounds_over}
use Rattle.region.specs.declared.Settings.{Settings}
use Rattle.runs.specs.declared.voiced.Span.{Span}
use Rattle.runs.specs.Runs.{long_runs}
use Rattle.runs.specs.Syllables.{syllable_runs}
use Rattle.runs.specs.Near.{separate}
use Rattle.region.specs.declared.Bounds.{Bounds}
use Rattle.nuclei.specs.Merging.{merged}
use Rattle.nuclei.specs.Peaks.{voiced_peaks}
use Rattle.nuclei.specs.Tops.{unheld, tops_of}

-- the nucleus of a syllable: its frame, and its level over the floor in dB
pub record Nucleus : Type 0 where
  pub frame : ℕ
  pub strength : Float

-- the frames of nuclei
abbrev pub frames_of : List Nucleus → List ℕ
frames_of = map (λ (n : Nucleus). n.frame)

-- the strengths of nuclei
abbrev pub strengths_of : List Nucleus → List Float
strengths_of = map (λ (n : Nucleus). n.strength)

-- what a call leaves that writes nuclei to two lists, and returns their count r
abbrev pub NucleiListed : List Nucleus → List ℕ → List ℕ → List Float → List Float → ℕ → Type 0
NucleiListed ns old_frames frames old_strengths strengths r = Listed (frames_of ns) old_frames frames r × Listed (strengths_of ns) old_strengths strengths r

-- the voiced peaks, and the tops of the long runs to which none of them belongs
unfoldable pub candidates : List Float → List Float → List Span → Bounds → Float → List ℕ
candidates s pitch rs b dip =
    let peaks = voiced_peaks s pitch b rs in
    peaks ++ tops_of s b dip (unheld rs peaks)

-- two frames are one nucleus: closer than the gap, or with no valley between them and not in two different syllable runs
unfoldable pub one_nucleus : List Float → List Span → Settings → ℕ → ℕ → Bool
one_nucleus s syllables p prev x = ltb (x - prev) p.gap || (shallow s prev x p.dip && not (separate syllables prev x))

-- the louder of two frames, the earlier on a tie
unfoldable pub louder : List Float → ℕ → ℕ → ℕ
louder s prev x = cond (le (at s x) (at s prev)) prev x

-- the frames of the nuclei, by the level, the pitch, the long runs, the syllable runs and the threshold: the candidates in order, merged
unfoldable pub nucleus_frames : List Float → List Float → List Span → List Span → Bounds → Settings → List ℕ
nucleus_frames s pitch rs syllables b p = merged (one_nucleus s syllables p) (louder s) (in_order (candidates s pitch rs b p.dip) (length s))

-- the nucleus at a frame
abbrev pub nucleus_at : List Float → Float → ℕ → Nucleus
nucleus_at s floor f = record { frame = f; strength = sub binary32 (at s f) floor }

-- the nuclei over a floor
unfoldable pub nuclei_over : List Float → List Float → List Span → List Span → Bounds → Float → Settings → List Nucleus
nuclei_over s pitch rs syllables b floor p = map (nucleus_at s floor) (nucleus_frames s pitch rs syllables b p)

-- what there is over a floor; nothing where there is none
abbrev pub over_floor : {A : Type 0} → Option Float → (Float → List A) → List A
over_floor None over = []
over_floor (Some x) over = over x

-- the nuclei of a take in the region start .. end
unfoldable pub nuclei_of : List Float → List Float → ℕ → ℕ → Settings → List Nucleus
nuclei_of db pitch start end p = over_floor (floor_of db) (λ x. nuclei_over (levels db) pitch (long_runs pitch) (syllable_runs pitch) (bounds_over x p start end) x p)
