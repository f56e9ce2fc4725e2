-- `nuclei::merging::merge_marked` meets its contract: the frames below i are merged. Assumes nothing.
use Prim.Native.Nat.{ℕ, ◌<◌}
use mathlib.Core.Path.{◌≡◌}
use mathlib.Core.Bool.{Bool}
use mathlib.Core.List.{reverse}
use Rattle.lists.specs.Stack.{Falls}
use Rattle.nuclei.proofs.Merge.{Merging}
use Rattle.nuclei.proofs.merging.merge_marked.Given as goal

abbrev pub invariant-loop-i : goal.invariant-loop-i
invariant-loop-i g l = Falls l.i (reverse l.kept.items) × ((test : ℕ → Bool) (one : ℕ → ℕ → Bool) (left : ℕ → ℕ → ℕ) → ((i : ℕ) → i < l.n → (r : _) → goal.P-post g l.is_in i r → r ≡ test i)
    → ((a b : ℕ) → a < b → b < l.n → ((r : _) → goal.F-post g l.are_one a b r → r ≡ one a b) × ((r : _) → goal.G-post g l.stays a b r → r ≡ left a b))
    → Merging one left test l.n l.kept.items l.i)
