-- Scaffolding of the code's loops: how many entries of a list are at most a number, and its smallest and largest entries. Definitions only.
use Rattle.std.specs.Prelude.{ℕ, min, max, List, [], ◌∷◌, leb, ltb}
use Rattle.lists.specs.Results.{filter}
use Rattle.lists.specs.By.{count_if}

-- how many entries are at most x
abbrev pub at_most : ℕ → List ℕ → ℕ
at_most x = count_if (λ y. leb y x)

-- the smallest entry of a list of 32-bit numbers, 2 ^ 32 - 1 where there is none
abbrev pub least_of : List ℕ → ℕ
least_of [] = 4294967295
least_of (y ∷ ys) = min y (least_of ys)

-- the largest entry, 0 where there is none
abbrev pub greatest_of : List ℕ → ℕ
greatest_of [] = 0
greatest_of (y ∷ ys) = max y (greatest_of ys)

-- the smallest of the entries above x
abbrev pub least_above : ℕ → List ℕ → ℕ
least_above x l = least_of (filter (ltb x) l)
