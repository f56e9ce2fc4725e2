-- The code's floating-point numbers, by their bits, are the decimals that the definitions have. Assumes nothing.
use mathlib.Core.Path.{◌≡◌, refl}
use lib.IntN.{pos}
use lib.Ieee.{binary64, of_bits, round}
use Rattle.floats.specs.Ratio.{ratio}

pub six_tenths : of_bits binary64 0x3fe3_3333_3333_3333 ≡ ratio binary64 (pos 6) 10
unfolding of_bits round
six_tenths = refl

pub nine_tenths : of_bits binary64 0x3fec_cccc_cccc_cccd ≡ ratio binary64 (pos 9) 10
unfolding of_bits round
nine_tenths = refl

pub sixteen_thousand : of_bits binary64 0x40cf_4000_0000_0000 ≡ ratio binary64 (pos 16000) 1
unfolding of_bits round
sixteen_thousand = refl
