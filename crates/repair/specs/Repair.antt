-- Octave repair: in a long run a pitch is halved or doubled where it lies too far from the middle of its neighbours' pitches. Definitions only.
use Rattle.std.specs.Prelude.{ℕ, ◌+◌, ◌-◌, ◌/◌, cond, List, [], ◌∷◌, ◌++◌, map, ltb, length, get_or, take, drop, Float}
use Rattle.std.specs.Float.{nan, binary32}
use Rattle.std.specs.Float.Ieee.{mul}
use Rattle.floats.specs.Plain.{half, two}
use Rattle.floats.specs.Total.{not_after}
use Rattle.lists.specs.Frames.{at, tabulate}
use Rattle.lists.specs.Results.{keep, filter}
use Rattle.lists.specs.By.{Each, sort_by}
use Rattle.lists.specs.Marks.{member}
use Rattle.powers.specs.Pitch.{PitchOrNone, octave_at}
use Rattle.powers.specs.declared.pitch.Octave.{Octave}
use Rattle.powers.specs.declared.pitch.Octave.TheVariants.{Keep, Halve, Double}
use Rattle.runs.specs.declared.voiced.Span.{Span}
use Rattle.runs.specs.Runs.{voiced, long_runs}

-- each entry of a track is no pitch, or one from lo to hi Hz
abbrev pub Pitches : ℕ → ℕ → List Float → Type 0
Pitches lo hi = Each (PitchOrNone lo hi)

-- the voiced frames of a run, in order
unfoldable pub voiced_in : List Float → Span → List ℕ
voiced_in pitch r = keep (voiced pitch) r.first (r.last + 1 - r.first)

-- the last k entries of a list; all of a shorter one
abbrev pub last_few : {A : Type 0} → ℕ → List A → List A
last_few k l = drop (length l - k) l

-- the neighbours of frame i in a run, given by its voiced frames: the last 5 before i and the first 5 after i, or as many as there are
unfoldable pub neighbours : List ℕ → ℕ → List ℕ
neighbours run i = last_few 5 (filter (λ j. ltb j i) run) ++ take 5 (filter (λ j. ltb i j) run)

-- the lower of the two middle values in IEEE 754's total order; of an odd count, the middle one
abbrev pub lower_middle : List Float → Float
lower_middle values = get_or (sort_by not_after values) ((length values - 1) / 2) nan

-- the upper of the two; of an odd count, the middle one again
abbrev pub upper_middle : List Float → Float
upper_middle values = get_or (sort_by not_after values) (length values / 2) nan

-- a pitch as it is, an octave lower, or an octave higher
abbrev pub shifted : Octave → Float → Float
shifted Keep f = f
shifted Halve f = mul binary32 f half
shifted Double f = mul binary32 f two

-- a pitch beside those of its neighbours, in the octave that their middle values ask for
unfoldable pub beside : Float → List Float → Float
beside f values = shifted (octave_at f (lower_middle values) (upper_middle values)) f

-- the pitch of frame i of a run, by the pitches as given
abbrev pub repaired_in : List Float → List ℕ → ℕ → Float
repaired_in pitch run i = beside (at pitch i) (map (at pitch) (neighbours run i))

-- frame i: repaired in the run that it is a voiced frame of; where there is none, its pitch stays
unfoldable pub repaired_among : List Float → List Span → ℕ → Float
repaired_among pitch [] i = at pitch i
repaired_among pitch (r ∷ rs) i = cond (member (voiced_in pitch r) i) (repaired_in pitch (voiced_in pitch r) i) (repaired_among pitch rs i)

-- the repaired track, frame by frame
unfoldable pub repaired : List Float → List Float
repaired pitch = tabulate (repaired_among pitch (long_runs pitch)) (length pitch)
