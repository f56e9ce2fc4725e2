-- Scaffolding of the code's loops: a stack whose entries fall, the last one first. Definitions only.
use Rattle.std.specs.Prelude.{ℕ, ◌<◌, List, [], ◌∷◌}

-- the entries fall strictly, the first of them below x
abbrev pub Falls : ℕ → List ℕ → Type 0
Falls x [] = Unit
Falls x (y ∷ ys) = (y < x) × Falls y ys
