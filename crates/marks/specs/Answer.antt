-- What the program answers to its input. Definitions only.
use Rattle.std.specs.Prelude.{ℕ, ◌+◌, ◌*◌, ◌≡◌, List, Result, Ok, Err}
use Rattle.report.specs.Shown.{printed}
use Rattle.input.specs.Held.{pieces_joined}

-- the bytes of the longest file whose head can agree: 65,535 frames
abbrev pub longest : ℕ
longest = 19 + 17 * 65535

-- what is on the page where the answer is no error: the text of the input that the pieces are cut from
abbrev pub TextAnswered : {A E : Type 0} → List ℕ → Result A E → Type 0
TextAnswered text (Err e) = Unit
TextAnswered text (Ok x) = (pieces : List (List ℕ)) × (text ≡ printed (pieces_joined pieces))

-- what is on the page where the bytes of the input are known: their text
abbrev pub TextOf : {A E : Type 0} → List ℕ → List ℕ → Result A E → Type 0
TextOf came text (Err e) = Unit
TextOf came text (Ok x) = text ≡ printed came
