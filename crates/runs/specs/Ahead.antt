-- Scaffolding of the code's loops: what is left of the voiced frames and runs from a frame on. Definitions only.
use Rattle.std.specs.Prelude.{ℕ, ◌-◌, List, map, length, Float}
use Rattle.lists.specs.Results.{keep}
use Rattle.runs.specs.declared.voiced.Run.{Run}
use Rattle.lists.specs.Grouped.{grouped}
use Rattle.runs.specs.Runs.{voiced, sole, close, joined}

-- the voiced frames from i on
abbrev pub frames_from : List Float → ℕ → List ℕ
frames_from pitch i = keep (voiced pitch) i (length pitch - i)

-- the runs that they make
unfoldable pub runs_from : List Float → ℕ → List Run
runs_from pitch i = grouped close joined (map sole (frames_from pitch i))
