-- The tops of the voiced runs that hold no peak. Definitions only.
use Rattle.std.specs.Prelude.{ℕ, ◌+◌, ◌-◌, min, max, Bool, ◌&&◌, not, List, [], ◌∷◌, map, length, ltb, Float, is_some}
use Rattle.std.specs.Float.{binary32}
use Rattle.std.specs.Float.Ieee.{lt, add}
use Rattle.lists.specs.Results.{cons_if, filter}
use Rattle.lists.specs.Marks.{member}
use Rattle.lists.specs.Frames.{at}
use Rattle.smooth.specs.Extrema.{argmax_middle}
use Rattle.runs.specs.declared.voiced.Span.{Span}
use Rattle.runs.specs.Near.{run_of, number_of}
use Rattle.region.specs.declared.Bounds.{Bounds}
use Rattle.nuclei.specs.Peaks.{some_near, speech_by_level}

-- ---- the runs that hold no peak
-- the numbers of the runs that frames belong to
unfoldable pub runs_held : List Span → List ℕ → List ℕ
runs_held rs frames = map number_of (filter is_some (map (run_of rs) frames))

-- of runs that are numbered from k on, those whose number is not in a list
unfoldable pub unheld_from : List ℕ → ℕ → List Span → List Span
unheld_from held k [] = []
unheld_from held k (r ∷ rs) = cons_if (not (member held k)) r (unheld_from held (k + 1) rs)

-- the runs to which none of the frames belongs
unfoldable pub unheld : List Span → List ℕ → List Span
unheld rs frames = unheld_from (runs_held rs frames) 0 rs

-- ---- their tops
-- the first frame of the part of a run that is in the region
abbrev pub part_first : Bounds → Span → ℕ
part_first b r = max r.first b.start

-- one past the last frame of that part
abbrev pub part_end : Bounds → Span → ℕ
part_end b r = min (r.last + 1) b.end

-- the loudest frame of that part, the middle of a flat top
unfoldable pub top_of : List Float → Bounds → Span → ℕ
top_of s b r = argmax_middle s (part_first b r) (part_end b r - 1)

-- frame i is on the flank of a louder one: up to 2 frames away some frame is louder by more than the dip
unfoldable pub on_flank : List Float → Float → ℕ → Bool
on_flank s dip i = some_near (λ j. lt (add binary32 (at s i) dip) (at s j)) (length s) i

-- the test that a top passes to be a candidate
unfoldable pub stands_alone : List Float → Bounds → Float → ℕ → Bool
stands_alone s b dip i = speech_by_level s b i && not (on_flank s dip i)

-- a run has a top: a part of it is in the region, and its loudest frame is speech and on no flank
unfoldable pub has_top : List Float → Bounds → Float → Span → Bool
has_top s b dip r = ltb (part_first b r) (part_end b r) && stands_alone s b dip (top_of s b r)

-- the tops of runs
unfoldable pub tops_of : List Float → Bounds → Float → List Span → List ℕ
tops_of s b dip rs = map (top_of s b) (filter (has_top s b dip) rs)
