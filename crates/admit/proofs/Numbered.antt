-- The number of a refusal is never that of admission. Assumes nothing.
use Rattle.std.proofs.Common.{◌≡◌, ◌<◌, arith}
use Rattle.admit.specs.declared.numbers.Refusal.{Refusal}
use Rattle.admit.specs.declared.numbers.Refusal.TheVariants.{Lengths, Alike, Settings, Db, Pitch, Sonority, Region, Nuclei, Samples, Room, Bytes}
use Rattle.admit.specs.Numbers.{number_at}

above_zero : (r : Refusal) → 0 < number_at r
above_zero Lengths = omega arith
above_zero Alike = omega arith
above_zero Settings = omega arith
above_zero Db = omega arith
above_zero Pitch = omega arith
above_zero Sonority = omega arith
above_zero Region = omega arith
above_zero Nuclei = omega arith
above_zero Samples = omega arith
above_zero Room = omega arith
above_zero Bytes = omega arith

pub not_zero : (r : Refusal) → number_at r ≡ 0 → ⊥
not_zero r e = omega (arith, above_zero r)
