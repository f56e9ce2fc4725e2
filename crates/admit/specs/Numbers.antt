-- The numbers of the refusals. Definitions only.
use Rattle.std.specs.Prelude.{ℕ, Bool, List, map, Result, Ok, Err}
use Rattle.admit.specs.declared.numbers.Refusal.{Refusal}
use Rattle.admit.specs.declared.numbers.Refusal.TheVariants.{Lengths, Alike, Settings, Db, Pitch, Sonority, Region, Nuclei, Samples, Room, Bytes}

-- what C callers get
abbrev pub number_at : Refusal → ℕ
number_at Lengths = 1
number_at Alike = 2
number_at Settings = 3
number_at Db = 4
number_at Pitch = 5
number_at Sonority = 6
number_at Region = 7
number_at Nuclei = 8
number_at Samples = 9
number_at Room = 10
number_at Bytes = 11

-- the number of what is answered, by the numbers of what may stand there, 0 where nothing does
abbrev pub number_by : {A T : Type 0} → (T → ℕ) → Result A T → ℕ
number_by number (Ok x) = 0
number_by number (Err r) = number r

-- the number of what is answered, 0 where nothing is refused
abbrev pub number_of : {A : Type 0} → Result A Refusal → ℕ
number_of = number_by number_at

-- the rows of a table of tests
abbrev pub numbers_by : {T : Type 0} → (T → ℕ) → List (Bool × T) → List ℕ
numbers_by number = map (λ row. number row.1)

abbrev pub numbers_in : List (Bool × Refusal) → List ℕ
numbers_in = numbers_by number_at

abbrev pub tests_in : {T : Type 0} → List (Bool × T) → List Bool
tests_in = map (λ row. row.0)
