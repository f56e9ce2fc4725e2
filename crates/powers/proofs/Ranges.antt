-- What passes the test of a range, and what lies between two values of a range, lies in the range. Assumes nothing.
use Rattle.std.proofs.Common.{◌≡◌, ℕ, true, T, sym, subst}
use lib.Ieee.{Float, le}
use lib.Ieee.Fits.{and_l, and_r}
use lib.Ieee.Positive.{positive, between, le_trans_positive}
use Rattle.floats.specs.Plain.{is_between}
use Rattle.powers.specs.Pitch.{hz, Between}

pub in_range : (lo hi : ℕ) (x : Float) → is_between (hz lo) (hz hi) x ≡ true → Between lo hi x
in_range lo hi x e =
    let h = subst T (sym e) tt in
    (and_l (le (hz lo) x) (le x (hz hi)) h, and_r (le (hz lo) x) (le x (hz hi)) h)

pub enclosed : (lo hi : ℕ) (l y u : Float) → T (positive (hz lo)) → T (positive (hz hi)) → T (positive l) → T (positive u) → T (le (hz lo) l) → T (le u (hz hi))
    → T (le l y) → T (le y u) → Between lo hi y
enclosed lo hi l y u LO HI L U from to g h =
    let p = between l y u L U g h in
    (le_trans_positive (hz lo) l y LO L p from g, le_trans_positive y u (hz hi) p U HI h to)
