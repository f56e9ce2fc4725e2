-- What is promised of the boundaries of a region. Definitions only.
use Rattle.std.specs.Prelude.{ℕ, ◌+◌, ◌-◌, ◌*◌, ◌≤◌, ◌<◌, not, List, [], ◌∷◌, ◌≡◌, length, Float}
use Rattle.lists.specs.Results.{cons_if}
use Rattle.lists.specs.By.{Each, Some}
use Rattle.region.specs.Speech.{speech_at, last_of}
use Rattle.runs.specs.declared.voiced.Span.{Span}
use Rattle.boundaries.specs.Edges.{between, changed, loud_beside}

-- each entry is more than 2 frames after the one before it, x the first
abbrev pub RisesFrom : ℕ → List ℕ → Type 0
RisesFrom x [] = Unit
RisesFrom x (y ∷ ys) = (x + 2 < y) × RisesFrom y ys

-- from start to end, any two more than 2 frames apart
abbrev pub Reaches : ℕ → ℕ → List ℕ → Type 0
Reaches start end [] = ⊥
Reaches start end (x ∷ xs) = (x ≡ start) × (last_of x xs ≡ end) × RisesFrom x xs

-- some entry is within 2 frames
abbrev pub Near : ℕ → List ℕ → Type 0
Near at = Some (λ k. (k ≤ at + 2) × (at ≤ k + 2))

-- the boundaries rise from start to end, any two over 2 frames apart; they are few; each joint has one within 2 frames
pub record Promised (start end : ℕ) (nuclei joints bs : List ℕ) : Type 0 where
  pub rise : Reaches start end bs
  pub few : length bs ≤ 4 * length nuclei + 2
  pub near : Each (λ j. Near j bs) joints

-- the pauses among changes of speech: each change out of speech with the one after it, by the edges that are taken there
abbrev pub pauses_at : List Float → Float → List ℕ → List Span
pauses_at db threshold [] = []
pauses_at db threshold (i ∷ []) = []
pauses_at db threshold (i ∷ j ∷ js) =
    cons_if (not (speech_at threshold db i)) (record { first = loud_beside db threshold i; last = loud_beside db threshold j }) (pauses_at db threshold (j ∷ js))

-- the pauses inside the region, by their two edges
abbrev pub pauses_in : List Float → Float → ℕ → ℕ → List Span
pauses_in db threshold start end = pauses_at db threshold (between start end (changed (speech_at threshold db)))

-- 4 a nucleus, 2 more, and twice as many as the pauses outnumber the nuclei
abbrev pub most_boundaries : ℕ → ℕ → ℕ
most_boundaries nuclei pauses = 4 * nuclei + 2 + 2 * (pauses - nuclei)
