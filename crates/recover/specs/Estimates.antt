-- A pitch estimate for each frame of a track that is tried. Definitions only.
use Rattle.std.specs.Prelude.{ℕ, ◌*◌, ◌≡◌, Bool, cond, ◌&&◌, List, eqb, length, get_or, Float}
use Rattle.std.specs.Float.Ieee.{eq}
use Rattle.floats.specs.Plain.{zero_f}
use Rattle.lists.specs.Frames.{tabulate}
use Rattle.std.specs.Prelude.{Option, None, Some}
use Rattle.powers.specs.Pitch.{Between}

-- frame i has no pitch, which +0.0 says, as past the end of the track
abbrev pub pitchless : List Float → ℕ → Bool
pitchless pitch i = eq (get_or pitch i zero_f) zero_f

-- frame i is without pitch, and its marks of speech and of a vowel are both 1; a mark that a list lacks reads as 0
abbrev pub tried : List Float → List ℕ → List ℕ → ℕ → Bool
tried pitch speech vowel i = pitchless pitch i && (eqb (get_or speech i 0) 1 && eqb (get_or vowel i 0) 1)

-- the estimate of frame i, where `period` says what is found around a sample: frames are 160 samples apart
abbrev pub estimate_at : (ℕ → Option Float) → List Float → List ℕ → List ℕ → ℕ → Option Float
estimate_at period pitch speech vowel i = cond (tried pitch speech vowel i) (period (160 * i)) None

-- the estimates, one a frame
unfoldable pub estimates : (ℕ → Option Float) → List Float → List ℕ → List ℕ → List (Option Float)
estimates period pitch speech vowel = tabulate (estimate_at period pitch speech vowel) (length pitch)

-- an estimate, if there is one, is from 60 to 600 Hz
abbrev pub InRange : Option Float → Type 0
InRange e = (x : Float) → e ≡ Some x → Between 60 600 x
