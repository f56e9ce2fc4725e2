-- What is held of an input that comes in pieces. Definitions only.
use Rattle.std.specs.Prelude.{ℕ, ◌+◌, ◌≡◌, List, [], ◌∷◌, ◌++◌, length, take}

-- of the bytes that came the file has the first, as many as it has room for, and `total` counts them all
pub record Holds (came file : List ℕ) (total : ℕ) : Type 0 where
  pub count : total ≡ length came
  pub bytes : take total file ≡ take (length file) came

-- what adding a piece leaves: whatever came before it, the piece has come right after
pub record Adds (piece file : List ℕ) (total : ℕ) (left : List ℕ) (counted : ℕ) : Type 0 where
  pub count : counted ≡ total + length piece
  pub holds : (came : List ℕ) → Holds came file total → Holds (came ++ piece) left counted

-- what adding pieces leaves, one after the other
pub data Added : List (List ℕ) → List ℕ → ℕ → List ℕ → ℕ → Type 0 where
  none : {file : List ℕ} {total : ℕ} → Added [] file total file total
  one : {piece : List ℕ} {pieces : List (List ℕ)} {file mid left : List ℕ} {total more counted : ℕ}
      → Adds piece file total mid more
      → Added pieces mid more left counted
      → Added (piece ∷ pieces) file total left counted

-- the input that the pieces are cut from
unfoldable pub pieces_joined : List (List ℕ) → List ℕ
pieces_joined [] = []
pieces_joined (piece ∷ pieces) = piece ++ pieces_joined pieces
