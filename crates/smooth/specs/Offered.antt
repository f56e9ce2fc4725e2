-- Scaffolding of the code's loops: what a flat stretch gives, as the walk comes to it. Definitions only.
use Rattle.std.specs.Prelude.{ℕ, Bool, ◌&&◌, List, Float}
use Rattle.smooth.specs.declared.extrema.Extremum.{Extremum}
use Rattle.smooth.specs.Extrema.{left_clear, right_clear, middle, inside}

-- the flat stretch first .. last is beyond what surrounds it, and its middle is in lo .. hi
abbrev pub offered : Extremum → List Float → ℕ → ℕ → ℕ → ℕ → Bool
offered kind s lo hi first last = (left_clear kind s first && right_clear kind s last) && inside lo hi (middle first last)
