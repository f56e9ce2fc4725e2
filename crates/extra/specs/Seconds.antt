-- The second syllable of a voiced run that holds one nucleus. Definitions only.
use Rattle.std.specs.Prelude.{ℕ, ◌-◌, Bool, cond, List, [], ◌∷◌, leb, ltb, Float, Option, None, Some}
use Rattle.lists.specs.Results.{filter}
use Rattle.smooth.specs.Extrema.{middle}
use Rattle.runs.specs.declared.voiced.Span.{Span}
use Rattle.runs.specs.Near.{distance}
use Rattle.extra.specs.Split.{split_of}
use Rattle.extra.specs.declared.seconds.Second.{Second}

-- a run holds the frames within 2 of it
abbrev pub holds : Span → ℕ → Bool
holds r f = leb (distance r f) 2

-- the frame of a list of one
abbrev pub only_one : List ℕ → Option ℕ
only_one [] = None
only_one (f ∷ []) = Some f
only_one (f ∷ g ∷ fs) = None

-- the one anchor that a run holds, if it holds exactly one
unfoldable pub held_by : List ℕ → Span → Option ℕ
held_by kept r = only_one (filter (holds r) kept)

-- the middle of the part of a run, split before frame k, that is without the nucleus
abbrev pub other_part : Span → ℕ → ℕ → ℕ
other_part r nucleus k = cond (ltb nucleus k) (middle k r.last) (middle r.first (k - 1))

-- the second syllable of a run and its nucleus: its frame, and its edge at the split
abbrev pub after_cut : Span → ℕ → Option ℕ → Option Second
after_cut r nucleus (Some k) = Some (record { frame = other_part r nucleus k; edge = k })
after_cut r nucleus None = None

-- the second syllable of a run that holds exactly one anchor
abbrev pub besides : List Float → Span → Option ℕ → Option Second
besides son r (Some f) = after_cut r f (split_of son r f)
besides son r None = None

-- the second syllable of a run
unfoldable pub second_in : List Float → List ℕ → Span → Option Second
second_in son kept r = besides son r (held_by kept r)

-- its frame
abbrev pub frame_of : Second → ℕ
frame_of x = x.frame

-- its edge
abbrev pub edge_of : Second → ℕ
edge_of x = x.edge

-- one more in front, if there is one
abbrev pub with_some : {A : Type 0} → Option A → List A → List A
with_some (Some x) xs = x ∷ xs
with_some None xs = xs

-- the second syllables of runs
unfoldable pub seconds : List Float → List ℕ → List Span → List Second
seconds son kept [] = []
seconds son kept (r ∷ rs) = with_some (second_in son kept r) (seconds son kept rs)
