-- `narrow` of a value by any fraction that it equals. Assumes nothing.
use mathlib.Core.Path.{◌≡◌, ap, ◌∙◌}
use mathlib.Core.Bool.{Bool}
use Prim.Native.Nat.{ℕ, ◌*◌, ◌<◌}
use lib.Ieee.{Float, nan, inf, fin, binary32, up, down, round}
use lib.Ieee.Exact.{HasValue}
use lib.Ieee.Fits.{down_pos}
use lib.Ieee.Scale.{round_same}
use Rattle.floats.specs.Narrow.{narrow}

pub narrow_value : (v : Float) (s : Bool) (a c : ℕ) → 0 < c → HasValue v s a c → narrow v ≡ round binary32 s a c
unfolding narrow
narrow_value nan s a c C h = absurd h
narrow_value (inf t) s a c C h = absurd h
narrow_value (fin t m e) s a c C h =
    ap (λ (b : Bool). round binary32 b (m * up e) (down e)) h.0 ∙ round_same binary32 s (m * up e) (down e) a c (down_pos e) C h.1
