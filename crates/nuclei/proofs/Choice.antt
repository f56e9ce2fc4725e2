-- The louder of two frames is one of them. Assumes nothing.
use mathlib.Core.Path.{◌≡◌, refl}
use mathlib.Core.Bool.{Bool, true, false, cond}
use mathlib.Core.List.{List}
use mathlib.Core.Logic.{◌⊎◌, inl, inr}
use lib.Ieee.{Float, le}
use Rattle.lists.specs.Frames.{at}
use Rattle.nuclei.specs.Nuclei.{louder}
use Rattle.nuclei.proofs.Merge.{Picks}

pub louder_picks : (s : List Float) → Picks (louder s)
unfolding louder
louder_picks s a b = go (le (at s b) (at s a))
  where
    go : (c : Bool) → (cond c a b ≡ a) ⊎ (cond c a b ≡ b)
    go true = inl refl
    go false = inr refl
