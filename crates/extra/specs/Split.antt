-- Where a voiced run splits into two syllables. Definitions only.
use Rattle.std.specs.Prelude.{ℕ, ◌+◌, ◌-◌, max, Bool, false, ◌&&◌, cond, leb, Float, Option, None, Some}
use mathlib.Core.List.{List, foldl}
use Rattle.std.proofs.Math.Seq.{slice}
use Rattle.std.specs.Float.{binary32}
use Rattle.std.specs.Float.Ieee.{round, sub, le}
use Rattle.floats.specs.Plain.{magnitude}
use Rattle.lists.specs.Results.{keep}
use Rattle.smooth.specs.Level.{mean_of}
use Rattle.runs.specs.declared.voiced.Span.{Span}

-- 0.2, the f32 nearest to one fifth
abbrev pub fifth : Float
fifth = round binary32 false 1 5

-- how much the sonority changes at frame k: between its mean over k - 2 and k - 1 and that over k and k + 1
unfoldable pub change : List Float → ℕ → Float
change son k = magnitude (sub binary32 (mean_of (slice k (k + 2) son)) (mean_of (slice (k - 2) k son)))

-- how far two frames are apart
abbrev pub abs_diff : ℕ → ℕ → ℕ
abs_diff a b = max (a - b) (b - a)

-- a run may split before frame k: 6 frames or more each side, 3 or more from the nucleus, and a change of at least 0.2
unfoldable pub may_split : List Float → Span → ℕ → ℕ → Bool
may_split son r nucleus k = leb 6 (k - r.first) && (leb 6 (r.last + 1 - k) && (leb 3 (abs_diff k nucleus) && le fifth (change son k)))

-- of two frames the one that weighs more, the later on a tie
abbrev pub heavier : (ℕ → Float) → Option ℕ → ℕ → Option ℕ
heavier weight None k = Some k
heavier weight (Some j) k = cond (le (weight j) (weight k)) (Some k) (Some j)

-- where a run that holds one nucleus splits: before the frame of the largest change, the later on a tie
unfoldable pub split_of : List Float → Span → ℕ → Option ℕ
split_of son r nucleus = foldl (heavier (change son)) None (keep (may_split son r nucleus) r.first (r.last + 1 - r.first))
