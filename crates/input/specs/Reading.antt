-- What reading leaves, by one read and by all. Definitions only.
use Rattle.std.specs.Prelude.{ℕ, zero, suc, ◌+◌, ◌<◌, ◌≡◌, List, Result, Ok, Err, Option, Some, None, take}
use Rattle.input.specs.Held.{Holds, Adds, Added}
use Rattle.input.specs.declared.Input.{Input}
use Rattle.input.specs.declared.Input.TheVariants as input

-- one read, by what the reader answered: its error, the end, or how many bytes it put at the front of the chunk, which are then added as a piece
abbrev pub Brought : {E : Type 0} → Result ℕ E → List ℕ → List ℕ → ℕ → List ℕ → Result (Option ℕ) E → Type 0
Brought (Err e) chunk file total left r = r ≡ Err e
Brought (Ok zero) chunk file total left r = (r ≡ Ok None) × (left ≡ file)
Brought (Ok (suc k)) chunk file total left r = (r ≡ Ok (Some (total + suc k))) × Adds (take (suc k) chunk) file total left (total + suc k)

-- all reads: pieces were added one after the other, and where the end was not reached there are more than `most` bytes
abbrev pub Stopped : {E : Type 0} → ℕ → List ℕ → List ℕ → Result Input E → Type 0
Stopped most file left (Err e) = Unit
Stopped most file left (Ok (input.Whole total)) = (pieces : List (List ℕ)) × Added pieces file 0 left total
Stopped most file left (Ok (input.Longer total)) = (pieces : List (List ℕ)) × Added pieces file 0 left total × (most < total)

-- all reads of an input that is known: to its end all of it came, and else its first bytes, more than `most`
abbrev pub StoppedIn : {E : Type 0} → ℕ → List ℕ → List ℕ → Result Input E → Type 0
StoppedIn most came left (Err e) = Unit
StoppedIn most came left (Ok (input.Whole total)) = Holds came left total
StoppedIn most came left (Ok (input.Longer total)) = Holds (take total came) left total × (most < total)
