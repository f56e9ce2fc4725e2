-- The track that estimates recover: every stretch that is long enough and alone gets its pitches. Definitions only.
use Rattle.std.specs.Prelude.{ℕ, zero, suc, ◌+◌, ◌-◌, min, Bool, false, not, cond, ◌&&◌, List, leb, ℤ, length, get_or, Float}
use Rattle.floats.specs.Plain.{zero_f}
use Rattle.floats.specs.Narrow.{narrow}
use Rattle.lists.specs.Frames.{tabulate, all_frames, first_frame, last_frame}
use Rattle.std.specs.Prelude.{Option, None, Some}
use Rattle.nsdf.specs.Period.{period_hz}
use Rattle.powers.specs.Pitch.{step_at}
use Rattle.recover.specs.Estimates.{pitchless, estimates}

-- both are there, and within 1.5 semitones of each other
abbrev pub near : Option Float → Option Float → Bool
near None e = false
near (Some p) None = false
near (Some p) (Some q) = step_at p q

-- frame i goes on with the stretch of the frame before it
abbrev pub joins : List (Option Float) → ℕ → Bool
joins es zero = false
joins es (suc i) = near (get_or es i None) (get_or es (suc i) None)

-- frame i starts a stretch
abbrev pub starts : List (Option Float) → ℕ → Bool
starts es i = not (joins es i)

-- the first frame of the stretch that frame i is in
abbrev pub start_of : List (Option Float) → ℕ → ℕ
start_of es = last_frame (starts es)

-- one past the last frame of the stretch that frame i is in: where the next one starts
abbrev pub end_of : List (Option Float) → ℕ → ℕ
end_of es i = first_frame (starts es) (i + 1) (length es - (i + 1))

-- none of the k frames from i on has a pitch
abbrev pub all_pitchless : List Float → ℕ → ℕ → Bool
all_pitchless given = all_frames (pitchless given)

-- a stretch from s to before e is recovered if it has 3 frames or more, and neither the 3 before it nor the 3 after it have a pitch
abbrev pub island : List Float → ℕ → ℕ → Bool
island given s e = leb 3 (e - s) && (all_pitchless given (s - 3) (min 3 s) && all_pitchless given e 3)

-- an estimate as a track has it, rounded to f32
abbrev pub stored : Option Float → Float
stored None = zero_f
stored (Some x) = narrow x

-- the pitch of frame i: that of its estimate where its stretch is recovered, else as given
abbrev pub recovered_at : List Float → List (Option Float) → ℕ → Float
recovered_at given es i = cond (island given (start_of es i) (end_of es i)) (stored (get_or es i None)) (get_or given i zero_f)

-- the track from the pitches as given and the estimates
unfoldable pub recovered_from : List Float → List (Option Float) → List Float
recovered_from given es = tabulate (recovered_at given es) (length given)

-- the track from the pitches as given, the marks, and what `period` finds around each sample
unfoldable pub recovered_by : (ℕ → Option Float) → List Float → List ℕ → List ℕ → List Float
recovered_by period pitch speech vowel = recovered_from pitch (estimates period pitch speech vowel)

-- the same where the periodicity of 16-bit samples gives the estimates
abbrev pub recovered : List Float → List ℤ → List ℕ → List ℕ → List Float
recovered pitch samples speech vowel = recovered_by (period_hz samples) pitch speech vowel
