-- The level of each frame: the mean of the up to five frames of dB that are centred on it. Definitions only.
use Rattle.std.specs.Prelude.{ℕ, ◌+◌, ◌-◌, min, true, cond, pos, length, Float}
use mathlib.Core.List.{List, map, foldl}
use Rattle.std.proofs.Math.Seq.{slice}
use Rattle.std.specs.Float.{fin, binary32}
use Rattle.std.specs.Float.Ieee.{add, div, of_int}
use Rattle.std.specs.Float.Ieee.Scale.{finite}
use Rattle.floats.specs.Plain.{zero_f, plain_zero}
use Rattle.lists.specs.Frames.{tabulate}

-- -100.0, digital silence in dB
abbrev pub silence : Float
silence = fin true 25 (pos 2)

-- what a frame's dB reads as
abbrev pub clean : Float → Float
clean d = cond (finite d) d silence

-- the frames from i - 2 to i + 2 that there are
abbrev pub five_around : List Float → ℕ → List Float
five_around c i = slice (i - 2) (min (i + 3) (length c)) c

-- the sum from +0.0 on, in order, rounded at each addition
abbrev pub sum_of : List Float → Float
sum_of xs = foldl (add binary32) zero_f xs

-- the sum, divided once; a zero is written as +0.0
abbrev pub mean_of : List Float → Float
mean_of xs = plain_zero (div binary32 (sum_of xs) (of_int binary32 (pos (length xs))))

-- the mean around each frame
unfoldable pub means : List Float → List Float
means c = tabulate (λ i. mean_of (five_around c i)) (length c)

-- the level of each frame
unfoldable pub levels : List Float → List Float
levels db = means (map clean db)

-- the level of one frame
unfoldable pub level_at : List Float → ℕ → Float
level_at db i = mean_of (five_around (map clean db) i)
