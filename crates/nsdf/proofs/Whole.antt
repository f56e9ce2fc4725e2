-- Sizes of whole numbers: of a sum and of a product, and what a signed width holds. Assumes nothing.
use mathlib.Core.Path.{◌≡◌, refl}
use Prim.Native.Nat.{ℕ, zero, suc, ◌+◌, ◌*◌, ◌-◌, ◌^◌, ◌≤◌, ◌<◌}
use native.Mathlib.Nat.{le_refl, le_trans, le_of_eq, mul-le-mul, lt_of_le_of_lt}
use native.Mathlib.Omega.{arith}
use mathlib.Core.Bool.{Bool, true, false, cond}
use lib.Dec.{T, ltb, ltb→lt, lit<}
use lib.IntN.{ℤ, pos, negsuc, neg_ℤ, nat_abs, sub_ℕ, ◌+ℤ◌, ◌*ℤ◌}
use lib.Signed.{mag, nat_abs-le}
use mir.Syntax.{w16, w64}
use mir.Val.{SFits}

abs_neg : (n : ℕ) → nat_abs (neg_ℤ (pos n)) ≡ n
abs_neg zero = refl
abs_neg (suc n) = refl

pub abs_mul : (a b : ℤ) → nat_abs (a *ℤ b) ≡ nat_abs a * nat_abs b
abs_mul (pos a) (pos b) = refl
abs_mul (pos a) (negsuc b) = abs_neg (a * suc b)
abs_mul (negsuc a) (pos b) = abs_neg (suc a * b)
abs_mul (negsuc a) (negsuc b) = refl

abs_sub : (a b : ℕ) → nat_abs (sub_ℕ a b) ≤ a + b
abs_sub a b = go (ltb a b) (ltb→lt a b)
  where
    go : (t : Bool) → (T t → a < b) → nat_abs (cond t (negsuc (b - suc a)) (pos (a - b))) ≤ a + b
    go true h = let k : a < b = h tt in omega arith
    go false h = omega arith

pub abs_add : (a b : ℤ) → nat_abs (a +ℤ b) ≤ nat_abs a + nat_abs b
abs_add (pos a) (pos b) = le_refl (a + b)
abs_add (pos a) (negsuc b) = abs_sub a (suc b)
abs_add (negsuc a) (pos b) = le_trans (abs_sub b (suc a)) (omega arith)
abs_add (negsuc a) (negsuc b) = omega arith

mag_le : (z : ℤ) → mag z ≤ nat_abs z
mag_le (pos n) = le_refl n
mag_le (negsuc n) = omega arith

-- what is small enough fits an i64
pub small : (z : ℤ) → nat_abs z < 2 ^ 63 → SFits w64 z
small z h = record { sfits = lt_of_le_of_lt (mag_le z) h }

-- a 16-bit sample is 2 ^ 15 at most in size
sample : (z : ℤ) → SFits w16 z → nat_abs z ≤ 2 ^ 15
sample z f = nat_abs-le z f.sfits

pub abs_product : (a b : ℤ) → SFits w16 a → SFits w16 b → nat_abs (a *ℤ b) ≤ 2 ^ 30
abs_product a b f g = le_trans (le_of_eq (abs_mul a b)) (mul-le-mul (sample a f) (sample b g))

-- a square is not below 0
pub square_is : (a : ℤ) → a *ℤ a ≡ pos (nat_abs a * nat_abs a)
square_is (pos a) = refl
square_is (negsuc a) = refl

-- twice a number whose double is at most b, which an f64 counts without a gap
module _ (z : ℤ) (b : ℕ) (h : 2 * nat_abs z ≤ b) (few : b ≤ 2 ^ 53) where
  pub twice_small : nat_abs (pos 2 *ℤ z) ≤ 2 ^ 53
  twice_small = le_trans (le_of_eq (abs_mul (pos 2) z)) (le_trans h few)

  pub twice_fits : SFits w64 (pos 2 *ℤ z)
  twice_fits = small (pos 2 *ℤ z) (lt_of_le_of_lt twice_small (lit< tt))

pub not_zero : (n : ℕ) → (n ≡ 0 → ⊥) → 0 < n
not_zero zero h = absurd (h refl)
not_zero (suc n) h = omega arith
