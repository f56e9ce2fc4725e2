-- Rust's `as f32` of an `f64`. Definitions only.
use Rattle.std.specs.Prelude.{◌*◌, Float}
use Rattle.std.specs.Float.{nan, inf, fin, binary32}
use Rattle.std.specs.Float.Ieee.{up, down, round}

-- the `f32` nearest to the exact value, a tie to the even one; a NaN and the infinities stay
unfoldable pub narrow : Float → Float
narrow nan = nan
narrow (inf s) = inf s
narrow (fin s m e) = round binary32 s (m * up e) (down e)
