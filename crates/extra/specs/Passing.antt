-- Scaffolding of the code's loops: what is left of the kept frames beside the runs. Definitions only.
use Rattle.std.specs.Prelude.{ℕ, ◌+◌, ◌≤◌, ◌≡◌, List, [], ◌∷◌}
use Rattle.lists.specs.Sorted.{StrictlyRises}
use Rattle.runs.specs.declared.voiced.Span.{Span}
use Rattle.extra.specs.Seconds.{held_by}

-- the first of the frames, so each, does not lie more than 2 before frame a
abbrev pub Onward : ℕ → List ℕ → Type 0
Onward a [] = Unit
Onward a (f ∷ fs) = a ≤ f + 2

-- what is left of the kept frames serves every run from frame a on
pub record Serves (kept : List ℕ) (a : ℕ) (rest : List ℕ) : Type 0 where
  pub rises : StrictlyRises 0 2048 rest
  pub same : (r : Span) → a ≤ r.first → held_by kept r ≡ held_by rest r

-- and begins there
pub record LeftFrom (kept : List ℕ) (a : ℕ) (rest : List ℕ) : Type 0 where
  pub serves : Serves kept a rest
  pub onward : Onward a rest
