-- Tests with numbers, and the first number of which one fails: what every table of refusals goes by. Definitions only.
use Rattle.std.specs.Prelude.{ℕ, Bool, not, ◌||◌, cond, List, [], ◌∷◌, map, eqb}
use Rattle.admit.specs.Values.{all_of}

-- the number of a refusal, and whether what is given passes
pub record Test : Type 0 where
  pub number : ℕ
  pub passed : Bool

-- the first number that is not passed; 0, which stands for admission, if each is
unfoldable pub first_of : List ℕ → List Bool → ℕ
first_of numbers [] = 0
first_of [] (b ∷ passed) = 0
first_of (n ∷ numbers) (b ∷ passed) = cond b (first_of numbers passed) n

-- whether each test of number n is passed
unfoldable pub passes : List Test → ℕ → Bool
passes tests n = all_of (λ t. not (eqb t.number n) || t.passed) tests

-- the first number, in the order of the numbers, of which a test fails
unfoldable pub first_failed : List ℕ → List Test → ℕ
first_failed order tests = first_of order (map (passes tests) order)
