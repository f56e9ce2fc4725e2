-- IEEE 754's total order on `f32`, as Rust's `f32::total_cmp` has it, by a value's place among the 2 ^ 32. Definitions only.
use Rattle.std.specs.Prelude.{ℕ, ◌+◌, ◌-◌, Bool, cond, leb, Float}
use Rattle.std.specs.Float.{binary32}
use Rattle.std.specs.Float.Ieee.{to_bits, of_bits}
use Rattle.std.specs.Float.Ieee.Scale.{finite}

-- where a bit pattern stands: first the negatives, the larger pattern before the smaller; then the others, by their patterns
abbrev pub placed : ℕ → ℕ
placed b = cond (leb 2147483648 b) (4294967295 - b) (2147483648 + b)

-- where a value stands
abbrev pub total_key : Float → ℕ
total_key x = placed (to_bits binary32 x)

-- where a value stands if it is finite, and past all that are where it is not
abbrev pub finite_key : Float → ℕ
finite_key x = cond (finite x) (total_key x) 4294967295

-- the bit pattern that stands at a place
abbrev pub unplaced : ℕ → ℕ
unplaced k = cond (leb 2147483648 k) (k - 2147483648) (4294967295 - k)

-- the value that stands at a place
abbrev pub value_of : ℕ → Float
value_of k = of_bits binary32 (unplaced k)

-- x stands no later than y: -0.0 before +0.0, a NaN after +infinity
abbrev pub not_after : Float → Float → Bool
not_after x y = leb (total_key x) (total_key y)
