-- From the best peak, and the first that is near it, to the estimate. Assumes nothing.
use mathlib.Core.Path.{◌≡◌}
use mathlib.Core.Bool.{true, false}
use mathlib.Core.List.{List}
use lib.Ieee.{Float, binary64, of_bits, lt, mul}
use Rattle.std.specs.Prelude.{ℕ, Option, None}
use Rattle.nsdf.specs.Period.{best_peak, first_peak, by_peak, estimated}
use Rattle.nsdf.proofs.Literals.{six_tenths, nine_tenths}

module _ (d : List Float) (best : Float) (is-best : best ≡ best_peak d) where
  pub too_low : lt best (of_bits binary64 0x3fe3_3333_3333_3333) ≡ true → None ≡ estimated d
  unfolding estimated
  too_low t = rw (← is-best, ← six_tenths, t)

  pub high_enough : lt best (of_bits binary64 0x3fe3_3333_3333_3333) ≡ false
      → (p : Option ℕ) → p ≡ first_peak d (mul binary64 (of_bits binary64 0x3fec_cccc_cccc_cccd) best) → by_peak d p ≡ estimated d
  unfolding estimated
  high_enough t p e = rw (← is-best, ← six_tenths, t, ← nine_tenths, ← e)
