-- `smooth::level::mean_of_five` meets its contract. Assumes nothing.
use Prim.Native.Nat.{◌+◌, ◌-◌}
use mathlib.Core.Path.{◌≡◌, refl, ap₂, ◌∙◌}
use mathlib.Core.Bool.{false}
use lib.IntN.{pos}
use lib.ListN.{get_or}
use lib.Ieee.{Float, nan, binary32, add, div, of_bits, of_int}
use Rattle.floats.specs.Plain.{plain_zero}
use Rattle.floats.proofs.Zeros.{zero_bits}
use Rattle.smooth.proofs.Averages.{five}
use Rattle.smooth.proofs.level.mean_of_five.Goals as goal

-- the code's 5.0
number : of_bits binary32 1084227584 ≡ of_int binary32 (pos 5)
unfolding of_bits of_int
number = refl

pub returns : goal.returns
returns c =
    let c₀ = c.args.c.now in
    let i = c.args.i in
    c.plain_zero.ensures
    ∙ ap₂
    (λ (z n : Float). plain_zero
    (div binary32
    (add binary32
    (add binary32 (add binary32 (add binary32 (add binary32 z (get_or c₀ (i - 2) nan)) (get_or c₀ (i - 1) nan)) (get_or c₀ i nan))
    (get_or c₀ (i + 1) nan)) (get_or c₀ (i + 2) nan)) n)) (zero_bits binary32 false) number
    ∙ five c₀ i c.requires.0 c.requires.1
