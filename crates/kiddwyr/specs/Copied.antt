-- Scaffolding of the layer over records: what copying from plain lists to records does. Definitions only.
use Rattle.std.specs.Prelude.{ℕ, ◌≡◌, List, [], ◌∷◌, Float}
use Rattle.lists.specs.Results.{overlay}
use Rattle.kiddwyr.specs.declared.Nucleus.{Nucleus}

-- each frame with its strength, as far as both lists go
abbrev pub paired : List ℕ → List Float → List Nucleus
paired [] ss = []
paired (f ∷ fs) [] = []
paired (f ∷ fs) (s ∷ ss) = record { frame = f; strength = s } ∷ paired fs ss

-- `fill_nuclei`: frames with their strengths at the front of a list of records
abbrev pub Filled : List ℕ → List Float → List Nucleus → List Nucleus → Type 0
Filled frames strengths old new = new ≡ overlay (paired frames strengths) old
