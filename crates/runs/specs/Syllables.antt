-- Syllable runs: long runs, grouped unless the pitch breaks; and the gaps inside them. Definitions only.
use Rattle.std.specs.Prelude.{ℕ, Bool, not, List, [], ◌∷◌, get_or, Float}
use Rattle.std.specs.Float.{nan}
use Rattle.powers.specs.Pitch.{pitch_of, breaks_between}
use Rattle.lists.specs.Results.{filter}
use Rattle.lists.specs.Grouped.{grouped}
use Rattle.runs.specs.declared.voiced.Span.{Span}
use Rattle.runs.specs.Runs.{long_runs}

-- the pitch moves 3 semitones or more from frame a to frame b; never where one of the two has no pitch of 20 to 4000 Hz
unfoldable pub breaks_from : List Float → ℕ → ℕ → Bool
breaks_from pitch a b = breaks_between (pitch_of (get_or pitch a nan)) (pitch_of (get_or pitch b nan))

-- no break from the last frame of a run to the first of the next
abbrev pub unbroken : List Float → Span → Span → Bool
unbroken pitch r s = not (breaks_from pitch r.last s.first)

-- from the first frame of a run to the last of a later one
abbrev pub across : Span → Span → Span
across r s = record { first = r.first; last = s.last }

-- runs, neighbours grouped unless the pitch breaks between them
unfoldable pub syllables_of : List Float → List Span → List Span
syllables_of pitch rs = grouped (unbroken pitch) across rs

-- the syllable runs, in order
unfoldable pub syllable_runs : List Float → List Span
syllable_runs pitch = syllables_of pitch (long_runs pitch)

-- the gap between two runs, by the frames that it lies between: from the last of the one to the first of the other
abbrev pub gap : Span → Span → Span
gap r s = record { first = r.last; last = s.first }

-- the gaps between neighbouring runs
unfoldable pub gaps : List Span → List Span
gaps [] = []
gaps (r ∷ []) = []
gaps (r ∷ s ∷ rs) = gap r s ∷ gaps (s ∷ rs)

-- the gaps between runs that the pitch does not break across
unfoldable pub dropouts_of : List Float → List Span → List Span
dropouts_of pitch rs = filter (λ (g : Span). not (breaks_from pitch g.first g.last)) (gaps rs)

-- the dropouts, in order: the gaps inside syllable runs
unfoldable pub dropouts : List Float → List Span
dropouts pitch = dropouts_of pitch (long_runs pitch)
