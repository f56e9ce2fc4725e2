-- How large a number is, by whole numbers. Definitions only.
use Rattle.std.specs.Prelude.{ℕ, ◌*◌, ◌≤◌, ◌≡◌, false, Float}
use Rattle.std.specs.Float.{nan, inf, fin}
use Rattle.std.specs.Float.Ieee.{up, down}

-- x is finite, and at most k in size
abbrev pub Within : ℕ → Float → Type 0
Within k nan = ⊥
Within k (inf s) = ⊥
Within k (fin s m e) = m * up e ≤ k * down e

-- x is finite, and at most 1/2 in size
abbrev pub Half : Float → Type 0
Half nan = ⊥
Half (inf s) = ⊥
Half (fin s m e) = 2 * (m * up e) ≤ down e

-- x is finite, and from lo to hi
abbrev pub FromTo : ℕ → ℕ → Float → Type 0
FromTo lo hi nan = ⊥
FromTo lo hi (inf s) = ⊥
FromTo lo hi (fin s m e) = (s ≡ false) × (lo * down e ≤ m * up e) × (m * up e ≤ hi * down e)
