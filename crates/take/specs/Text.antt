-- Text in ASCII: numbers, words and lines. Definitions only.
use Rattle.std.specs.Prelude.{ℕ, zero, suc, ◌+◌, ◌/◌, ◌%◌, cond, List, [], ◌∷◌, ◌++◌, ltb}

-- a digit below 16: `0` to `9`, then `a` to `f`
unfoldable pub glyph : ℕ → ℕ
glyph d = cond (ltb d 10) (48 + d) (87 + d)

-- the last k hexadecimal digits of n
unfoldable pub hex_digits : ℕ → ℕ → List ℕ
hex_digits zero n = []
hex_digits (suc k) n = hex_digits k (n / 16) ++ (glyph (n % 16) ∷ [])

-- a u32 in eight digits
abbrev pub hex : ℕ → List ℕ
hex n = hex_digits 8 n

-- the decimal digits of n, the last k at most
unfoldable pub decimal_in : ℕ → ℕ → List ℕ
decimal_in zero n = []
decimal_in (suc k) n = cond (ltb n 10) (glyph n ∷ []) (decimal_in k (n / 10) ++ (glyph (n % 10) ∷ []))

-- a u32 in the ten digits that it may have, or fewer
abbrev pub decimal : ℕ → List ℕ
decimal n = decimal_in 10 n

-- what follows a word of a line: the other words, each after a space, and the newline
abbrev pub after_word : List (List ℕ) → List ℕ
after_word [] = 10 ∷ []
after_word (w ∷ ws) = 32 ∷ (w ++ after_word ws)

-- a line of words, of which there is one at least
abbrev pub line : List ℕ → List (List ℕ) → List ℕ
line w ws = w ++ after_word ws
