-- The one NaN and the patterns that read as it, over the format. Assumes nothing.
use mathlib.Core.Path.{◌≡◌, refl, sym, ap, ◌∙◌, subst}
use mathlib.Core.Bool.{Bool, true, false, not, true≢false, false≢true}
use Prim.Native.Nat.{ℕ, ◌+◌, ◌*◌, ◌/◌, ◌%◌, ◌≤◌, ◌<◌}
use lib.Dec.{T}
use borrow.Author.Tests.{lt-ltb, le-ltb}
use lib.Ieee.{Float, nan, inf, fin, Format, binary32, binary64, hid, ones, top, div, ne, is_nan, nan_bits, to_bits, of_bits}
use lib.Ieee.Bits.{nan_bits_is, nan_bits_above}
use lib.Ieee.Compare.{differs_from_itself, nan_differs}

-- only a NaN differs from itself
pub differs : (x : Float) → ne x x ≡ true → x ≡ nan
differs x h = differs_from_itself x (subst T (sym h) tt)

pub no_nan : (x : Float) → ne x x ≡ false → T (not (is_nan x))
unfolding is_nan
no_nan nan h = absurd (true≢false (sym nan_differs ∙ h))
no_nan (inf s) h = tt
no_nan (fin s m e) h = tt

is_nan_lem : (x : Float) → is_nan x ≡ true → nan ≡ x
unfolding is_nan
is_nan_lem nan h = refl
is_nan_lem (inf s) h = absurd (false≢true h)
is_nan_lem (fin s m e) h = absurd (false≢true h)

-- 0 / 0, by which the code makes one
pub quotient : (f : Format) → div f (of_bits f 0) (of_bits f 0) ≡ nan
unfolding div of_bits
quotient binary32 = refl
quotient binary64 = refl

-- what is above infinity's pattern, the sign left out, reads as a NaN
pub read_nan : (f : Format) (b : ℕ) → ones f * hid f < b % top f → div f (of_bits f 0) (of_bits f 0) ≡ of_bits f b
read_nan f b h = quotient f ∙ is_nan_lem (of_bits f b) (sym (nan_bits_is f b) ∙ nan_bits_above f b ∙ lt-ltb (ones f * hid f) (b % top f) h)

pub read_other : (f : Format) (b : ℕ) → b % top f ≤ ones f * hid f → T (not (nan_bits f b))
read_other f b h = subst (λ (t : Bool). T (not t)) (sym (nan_bits_above f b ∙ le-ltb (ones f * hid f) (b % top f) h)) tt

-- a NaN is written with only the highest of its digits set
pub written_nan : (f : Format) (x : Float) → ne x x ≡ true → ones f * hid f + hid f / 2 ≡ to_bits f x
unfolding to_bits
written_nan f x h = ap (to_bits f) (sym (differs x h))
