-- The pitch of a take around a sample, from the peaks of its periodicity. Definitions only.
use Rattle.std.specs.Prelude.{ℕ, ◌+◌, ◌-◌, Bool, true, cond, ◌&&◌, List, [], ◌∷◌, map, ℤ, pos, Float, Option, None, Some}
use Rattle.std.specs.Float.{inf, binary64}
use Rattle.std.specs.Float.Ieee.{add, sub, mul, div, neg, lt, le, of_int}
use Rattle.floats.specs.Plain.{zero_f, half, two}
use Rattle.floats.specs.Ratio.{ratio}
use Rattle.lists.specs.Frames.{at, tabulate}
use Rattle.lists.specs.Results.{keep}
use Rattle.lists.specs.By.{best_of}
use Rattle.nsdf.specs.Nsdf.{window, nsdf}

-- the periodicity at lags 31 to 230: lag 31 + k stands at k
unfoldable pub measured : List ℤ → List Float
measured w = tabulate (λ k. nsdf w (31 + k)) 200

-- higher than on its left, and at least as high as on its right
abbrev pub is_peak : List Float → ℕ → Bool
is_peak d k = lt (at d (k - 1)) (at d k) && le (at d (k + 1)) (at d k)

-- x lies above y
abbrev pub above : Float → Float → Bool
above x y = lt y x

-- the highest of the peaks at lags 32 to 229
unfoldable pub best_peak : List Float → Float
best_peak d = best_of above (inf true) (map (at d) (keep (is_peak d) 1 198))

-- a peak at or above `least`
abbrev pub is_near : List Float → Float → ℕ → Bool
is_near d least k = is_peak d k && le least (at d k)

-- the front of a list
abbrev pub first : List ℕ → Option ℕ
first [] = None
first (k ∷ ks) = Some k

-- the first of the peaks at or above `least`
unfoldable pub first_peak : List Float → Float → Option ℕ
first_peak d least = first (keep (is_near d least) 1 198)

-- a - 2 b + c
abbrev pub bend : Float → Float → Float → Float
bend a b c = add binary64 (sub binary64 a (mul binary64 two b)) c

-- how far the top of the parabola through three values lies from the middle one; 0 where it has no top
abbrev pub shift : Float → Float → Float → Float
shift a b c =
    cond (lt (bend a b c) zero_f) (div binary64 (mul binary64 half (sub binary64 a c)) (bend a b c)) zero_f

-- brought to -1/2 or 1/2 from outside
abbrev pub clamped : Float → Float
clamped x = cond (lt x (neg half)) (neg half) (cond (lt half x) half x)

-- the lag of the peak at k, moved to the top of the parabola through it and its neighbours
unfoldable pub refined : List Float → ℕ → Float
refined d k = add binary64 (of_int binary64 (pos (31 + k))) (clamped (shift (at d (k - 1)) (at d k) (at d (k + 1))))

-- 16,000 samples a second over the refined lag
abbrev pub by_peak : List Float → Option ℕ → Option Float
by_peak d None = None
by_peak d (Some k) = Some (div binary64 (ratio binary64 (pos 16000) 1) (refined d k))

-- none where the best is below 0.6; else by the first peak that reaches 0.9 of the best
unfoldable pub estimated : List Float → Option Float
estimated d = cond (lt (best_peak d) (ratio binary64 (pos 6) 10)) None (by_peak d (first_peak d (mul binary64 (ratio binary64 (pos 9) 10) (best_peak d))))

-- the pitch around a sample, from the window that is centred there
unfoldable pub period_hz : List ℤ → ℕ → Option Float
period_hz xs centre = estimated (measured (window xs centre))
