-- The sums of products and of squares, one pair at a time, and that twice the products are at most the squares. Assumes nothing.
use mathlib.Core.Path.{◌≡◌, refl, sym, ap, ap₂, ◌∙◌}
use Prim.Native.Nat.{ℕ, zero, suc, ◌+◌, ◌*◌, ◌^◌, ◌≤◌, zero-le}
use native.Mathlib.Nat.{zero-mul, mul-zero, mul-suc, suc-mul}
use native.Mathlib.Omega.{arith}
use mathlib.Core.List.{List, [], ◌∷◌}
use mathlib.Core.Logic.{◌⊎◌, inr, ⊎_elim}
use lib.IntN.{ℤ, pos, nat_abs, ◌+ℤ◌, ◌*ℤ◌, +ℤ_assoc, +ℤ_idr}
use lib.ListN.{length, drop, drop_of_length-le}
use mir.Syntax.{w64}
use mir.Val.{SFits, to_z, of_z}
use mir.ValLaws.{to_z-of_z}
use Rattle.nsdf.proofs.Whole.{small, abs_add, abs_mul}
use Rattle.floats.specs.Plain.{zero_f}
use Rattle.nsdf.specs.Nsdf.{cross, power, square, normalised, nsdf}

-- ---- of no pair

no_cross : (xs ys : List ℤ) → (xs ≡ []) ⊎ (ys ≡ []) → cross xs ys ≡ pos 0
unfolding cross
no_cross [] ys h = refl
no_cross (x ∷ xs) [] h = refl
no_cross (x ∷ xs) (y ∷ ys) h = ⊎_elim (λ e. absurd (omega (arith, ap length e))) (λ e. absurd (omega (arith, ap length e))) h

pub no_power : (xs ys : List ℤ) → (xs ≡ []) ⊎ (ys ≡ []) → power xs ys ≡ 0
unfolding power
no_power [] ys h = refl
no_power (x ∷ xs) [] h = refl
no_power (x ∷ xs) (y ∷ ys) h = ⊎_elim (λ e. absurd (omega (arith, ap length e))) (λ e. absurd (omega (arith, ap length e))) h

pub power_end : (w xs : List ℤ) (j : ℕ) → length w ≤ j → power xs (drop j w) ≡ 0
power_end w xs j h = no_power xs (drop j w) (inr (drop_of_length-le w h))

-- ---- sums of products in an i64

-- a product reads back as itself
pub product_back : (r : ℤ) → nat_abs r ≤ 1073741824 → to_z w64 (of_z w64 r) ≡ r
product_back r h = to_z-of_z w64 r (small r (omega (arith, h)))

-- one product more still fits
pub sum_fits : (sum : ℤ) (i : ℕ) (r : ℤ) → i ≤ 512 → nat_abs sum ≤ 1073741824 * i → nat_abs r ≤ 1073741824 → SFits w64 (sum +ℤ r)
sum_fits sum i r few so_far h = small (sum +ℤ r) (omega (arith, abs_add sum r, few, so_far, h))

-- ---- the loops: what is added so far, with the pairs of xs and ys, which are still to come, is the whole

-- the products
abbrev pub Crossed : ℤ → ℤ → List ℤ → List ℤ → Type 0
Crossed whole sum xs ys = (nat_abs sum + 1073741824 * length xs ≤ 2 ^ 39) × (sum +ℤ cross xs ys ≡ whole)

-- the squares
abbrev pub Powered : ℕ → ℕ → List ℤ → List ℤ → Type 0
Powered whole sum xs ys = (sum + 2147483648 * length xs ≤ 2 ^ 40) × (sum + power xs ys ≡ whole)

-- one pair more
module _ {xs₀ ys₀ : List ℤ} (x : ℤ) (xs : List ℤ) (y : ℤ) (ys : List ℤ) (e : xs₀ ≡ x ∷ xs) (f : ys₀ ≡ y ∷ ys) where
  pub cross_turn : (whole sum : ℤ) → Crossed whole sum xs₀ ys₀ → (r : ℤ) → r ≡ x *ℤ y → nat_abs r ≤ 1073741824 → Crossed whole (sum +ℤ r) xs ys
  unfolding cross
  cross_turn whole sum p r is small = (
    omega (arith, p.0, ap length e, abs_add sum r),
    +ℤ_assoc sum r (cross xs ys) ∙ ap (λ (z : ℤ). sum +ℤ (z +ℤ cross xs ys)) is ∙ ap (λ (z : ℤ). sum +ℤ z) (sym (ap₂ cross e f)) ∙ p.1,
  )

  pub power_turn : (whole sum : ℕ) → Powered whole sum xs₀ ys₀ → (s t : ℕ) → s ≡ square x → s ≤ 1073741824 → t ≡ square y → t ≤ 1073741824 → Powered whole (sum + (s + t)) xs ys
  unfolding power
  power_turn whole sum p s t is s_small js t_small =
      let q : power xs₀ ys₀ ≡ square x + square y + power xs ys = ap₂ power e f in (
        omega (arith, p.0, ap length e),
        omega (arith, p.1, q, is, js),
      )

-- where no pair is left
module _ (xs ys : List ℤ) (over : (xs ≡ []) ⊎ (ys ≡ [])) where
  pub cross_last : (whole sum : ℤ) → Crossed whole sum xs ys → sum ≡ whole
  cross_last whole sum p = sym (+ℤ_idr sum) ∙ ap (λ (z : ℤ). sum +ℤ z) (sym (no_cross xs ys over)) ∙ p.1

  pub power_last : (whole sum : ℕ) → Powered whole sum xs ys → sum ≡ whole
  power_last whole sum p = omega (arith, p.1, no_power xs ys over)

-- ---- twice the products are at most the squares, whatever their signs

two_products : (a b : ℕ) → 2 * (a * b) ≤ a * a + b * b
two_products zero b = simp (zero-mul, mul-zero) zero-le
two_products (suc a) zero = simp mul-zero zero-le
two_products (suc a) (suc b) = simp (mul-suc, suc-mul) (omega (arith, two_products a b))

pub cross_le : (xs ys : List ℤ) → 2 * nat_abs (cross xs ys) ≤ power xs ys
unfolding cross power
cross_le [] ys = omega arith
cross_le (x ∷ xs) [] = omega arith
cross_le (x ∷ xs) (y ∷ ys) =
    omega (arith, abs_add (x *ℤ y) (cross xs ys), abs_mul x y, two_products (nat_abs x) (nat_abs y), cross_le xs ys)

-- ---- the two sums of a lag, the products by their bits, are what `normalised` takes, and give the periodicity

module _ (w : List ℤ) (lag : ℕ) (x : ℤ) (e : ℕ) (x-is : x ≡ cross w (drop lag w)) (e-is : e ≡ power w (drop lag w)) (few : e ≤ 2 ^ 40) where
  halved : 2 * nat_abs x ≤ e
  halved = rw (x-is, e-is) (cross_le w (drop lag w))

  back : to_z w64 (of_z w64 x) ≡ x
  back = to_z-of_z w64 x (small x (omega (arith, halved)))

  pub sums_fit : (2 * nat_abs (to_z w64 (of_z w64 x)) ≤ e) × (e ≤ 2 ^ 53)
  sums_fit = rw back (halved, omega arith)

  pub sums_give : normalised (to_z w64 (of_z w64 x)) e ≡ nsdf w lag
  unfolding nsdf
  sums_give = rw (back, x-is, e-is)

-- without squares, as without a pair
pub no_squares : (w : List ℤ) (lag : ℕ) → power w (drop lag w) ≡ 0 → zero_f ≡ nsdf w lag
unfolding nsdf
no_squares w lag e = rw e
