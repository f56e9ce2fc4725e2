-- Scaffolding of the code's loops: running sums of squares. Definitions only.
use Rattle.std.specs.Prelude.{ℕ, ◌+◌, ◌≤◌, ◌^◌, ◌≡◌, List, [], ◌∷◌, ℤ, length, take, get_or}
use Rattle.nsdf.specs.Nsdf.{square}

-- the squares of a list, added up
unfoldable pub squares : List ℤ → ℕ
squares [] = 0
squares (x ∷ xs) = square x + squares xs

-- sq has at each i the squares of the first i samples of w, and their sum is one that 512 samples can reach
pub record Running (w : List ℤ) (sq : List ℕ) : Type 0 where
  pub sums : (i : ℕ) → i ≤ length w → get_or sq i 0 ≡ squares (take i w)
  pub small : squares w ≤ 2 ^ 39
