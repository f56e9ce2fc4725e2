-- Minima of the level inside long spans, and how prominent they are. Definitions only.
use Rattle.std.specs.Prelude.{ℕ, ◌+◌, ◌-◌, Bool, false, not, ◌&&◌, ◌||◌, List, [], ◌∷◌, map, length, ltb, Float}
use Rattle.std.specs.Float.{binary32}
use Rattle.std.specs.Float.Ieee.{sub, le}
use Rattle.lists.specs.Results.{filter}
use Rattle.lists.specs.Candidates.{Candidate}
use Rattle.lists.specs.Frames.{at, first_frame, last_frame}
use Rattle.smooth.specs.Extrema.{lower, inside, local_extrema}
use Rattle.smooth.specs.declared.extrema.Extremum.TheVariants.{Min}

-- the top of the hill on the left of frame i: as far as the level does not fall on the way
abbrev pub climb_left : List Float → ℕ → ℕ
climb_left s = last_frame (λ j. not (le (at s j) (at s (j - 1))))

-- the top of the hill on the right of frame i, at most k frames on
abbrev pub climb_right : List Float → ℕ → ℕ → ℕ
climb_right s = first_frame (λ j. not (le (at s j) (at s (j + 1))))

-- the prominence of frame i: the level on the lower of its two hills, less its own
unfoldable pub prominence_at : List Float → ℕ → Float
prominence_at s i = sub binary32 (lower (at s (climb_left s i)) (at s (climb_right s i (length s - 1 - i)))) (at s i)

-- a minimum weighs its prominence
abbrev pub minimum : List Float → ℕ → Candidate
minimum s i = record { frame = i; weight = prominence_at s i }

-- a frame lies strictly inside a span of more than 35 frames between neighbours of a list
unfoldable pub in_long_span : List ℕ → ℕ → Bool
in_long_span [] i = false
in_long_span (a ∷ []) i = false
in_long_span (a ∷ b ∷ bs) i = (ltb 35 (b - a) && inside (a + 1) b i) || in_long_span (b ∷ bs) i

-- the local minima of the level inside the long spans of what is kept, but not those to skip
unfoldable pub minima : List Float → (ℕ → Bool) → List ℕ → List Candidate
minima s skip kept = map (minimum s) (filter (λ i. in_long_span kept i && not (skip i)) (local_extrema s 0 (length s) Min))
