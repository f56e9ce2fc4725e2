-- What the comparisons of pitches mean, over exact values: a finite float is the fraction `num` / `den`. Definitions only.
use Rattle.std.specs.Prelude.{◌≡◌, ℕ, ◌*◌, ◌^◌, min, max, Bool, false, cond, T, ◌⊎◌, pos, nat_le, nat_lt, Float, Option, Some, None}
use Rattle.std.specs.Float.{fin}
use Rattle.std.specs.Float.Ieee.{le}
use Rattle.std.specs.Float.Ieee.Positive.{num, den}
use Rattle.floats.specs.Plain.{zero_f, is_between}
use Rattle.powers.specs.declared.pitch.Octave.{Octave}
use Rattle.powers.specs.declared.pitch.Octave.TheVariants.{Keep, Halve, Double}

-- n Hz
abbrev pub hz : ℕ → Float
hz n = fin false n (pos 0)

-- x is a number from lo to hi Hz
abbrev pub Between : ℕ → ℕ → Float → Type 0
Between lo hi x = T (le (hz lo) x) × T (le x (hz hi))

-- x is +0.0, which is no pitch, or a pitch from lo to hi Hz
abbrev pub PitchOrNone : ℕ → ℕ → Float → Type 0
PitchOrNone lo hi x = (x ≡ zero_f) ⊎ Between lo hi x

-- a break, 3 semitones or more: the larger of x and y to the 4th is at least twice the smaller to the 4th
unfoldable pub breaks_in : ℕ → ℕ → Bool
breaks_in x y = nat_le (2 * min x y ^ 4) (max x y ^ 4)

-- a break between two pitches, over their common denominator
abbrev pub breaks_at : Float → Float → Bool
breaks_at p q = breaks_in (num p * den q) (num q * den p)

-- what an entry of a track stands for: a pitch from 20 to 4,000 Hz, or none
abbrev pub pitch_of : Float → Option Float
pitch_of x = cond (is_between (hz 20) (hz 4000) x) (Some x) None

-- a break between what two entries stand for; there is none where one is no pitch
abbrev pub breaks_between : Option Float → Option Float → Bool
breaks_between (Some p) (Some q) = breaks_at p q
breaks_between (Some p) None = false
breaks_between None q = false

-- a step within 1.5 semitones: the larger to the 8th is at most twice the smaller to the 8th
unfoldable pub step_in : ℕ → ℕ → Bool
step_in x y = nat_le (max x y ^ 8) (2 * min x y ^ 8)

-- such a step between two pitches, over their common denominator
abbrev pub step_at : Float → Float → Bool
step_at p q = step_in (num p * den q) (num q * den p)

-- f beside the middle values a and b: f⁴ > 8a²b² halves it, 8f⁴ < a²b² doubles it, and otherwise it is kept
unfoldable pub octave_in : ℕ → ℕ → ℕ → Octave
octave_in f a b = cond (nat_lt (8 * a ^ 2 * b ^ 2) (f ^ 4)) Halve (cond (nat_lt (8 * f ^ 4) (a ^ 2 * b ^ 2)) Double Keep)

-- pitch f beside the middle pitches a and b, over the common denominator of the three
abbrev pub octave_at : Float → Float → Float → Octave
octave_at f a b = octave_in (num f * (den a * den b)) (num a * (den f * den b)) (num b * (den f * den a))
