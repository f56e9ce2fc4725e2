-- A pitch from 40 to 2,000 Hz that is halved or doubled as an f32 is from 20 to 4,000 Hz: rounding keeps the order. Assumes nothing.
use Rattle.std.proofs.Common.{T}
use lib.Ieee.{Float, binary32, mul, le}
use lib.Ieee.Positive.{positive, between, mul_mono}
use Rattle.floats.specs.Plain.{half, two}
use Rattle.powers.specs.Pitch.{hz, Between}
use Rattle.powers.proofs.Ranges.{enclosed}

-- by any factor that takes the two bounds where they have to go
scaled_admitted : (c : Float) → T (positive c) → T (le c c) → T (positive (mul binary32 (hz 40) c)) → T (positive (mul binary32 (hz 2000) c))
    → T (le (hz 20) (mul binary32 (hz 40) c)) → T (le (mul binary32 (hz 2000) c) (hz 4000))
    → (f : Float) → Between 40 2000 f → Between 20 4000 (mul binary32 f c)
scaled_admitted c p same lo hi from to f h =
    let F = between (hz 40) f (hz 2000) tt tt h.0 h.1 in
    let up = mul_mono binary32 (hz 40) f c c tt F p p h.0 same in
    let down = mul_mono binary32 f (hz 2000) c c F tt p p h.1 same in
    enclosed 20 4000 (mul binary32 (hz 40) c) (mul binary32 f c) (mul binary32 (hz 2000) c) tt tt lo hi from to up down

pub halved_admitted : (f : Float) → Between 40 2000 f → Between 20 4000 (mul binary32 f half)
unfolding le mul
halved_admitted = scaled_admitted half tt tt tt tt tt tt

pub doubled_admitted : (f : Float) → Between 40 2000 f → Between 20 4000 (mul binary32 f two)
unfolding le mul
doubled_admitted = scaled_admitted two tt tt tt tt tt tt
