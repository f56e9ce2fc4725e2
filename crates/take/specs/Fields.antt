-- Numbers in bytes, the most significant byte first. Definitions only.
use Rattle.std.specs.Prelude.{ℕ, ◌+◌, ◌*◌, List, get_or, Float}
use Rattle.std.specs.Float.{binary32}
use Rattle.std.specs.Float.Ieee.{of_bits}

-- of two bytes
unfoldable pub half_at : List ℕ → ℕ → ℕ
half_at s at = get_or s at 0 * 256 + get_or s (at + 1) 0

-- of four bytes
unfoldable pub word_at : List ℕ → ℕ → ℕ
word_at s at = ((get_or s at 0 * 256 + get_or s (at + 1) 0) * 256 + get_or s (at + 2) 0) * 256 + get_or s (at + 3) 0

-- the f32 that four bytes are the pattern of; every pattern of a NaN is the one NaN
abbrev pub float_at : List ℕ → ℕ → Float
float_at s at = of_bits binary32 (word_at s at)
