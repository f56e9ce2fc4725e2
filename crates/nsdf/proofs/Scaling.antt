-- A take whose samples are all multiplied by one whole number other than 0, of any size, has the same periodicities and the same estimates,
-- to the last bit: numerator and denominator of the fraction gain its square, and the fraction alone is rounded. Assumes nothing.
use mathlib.Core.Path.{◌≡◌, refl, sym, ap, ◌∙◌, subst, fun_ext}
use Prim.Native.Nat.{ℕ, zero, suc, ◌+◌, ◌*◌, ◌<◌, zero-le, suc-le-suc}
use native.Mathlib.Nat.{mul_comm, mul_assoc, mul_left_comm, mul-pos, mul-add, mul-zero, lt_irrefl}
use native.Mathlib.Omega.{arith}
use mathlib.Core.Bool.{true, false}
use mathlib.Core.List.{List, [], ◌∷◌, map}
use lib.Dec.{eqb-suc-zero}
use lib.IntN.{ℤ, pos, negsuc, neg_ℤ, nat_abs, ◌+ℤ◌, ◌*ℤ◌, *ℤ_comm, zero-*ℤ, *ℤ-zero, suc_ℤ-*ℤ, neg_ℤ-neg_ℤ, +ℤ_assoc, +ℤ_comm}
use lib.ListN.{drop}
use lib.Ieee.{Float, Format, binary64, round}
use lib.Ieee.Scale.{round_same}
use borrow.Author.Tests.{ne_eqb}
use Rattle.floats.specs.Ratio.{ratio}
use Rattle.lists.specs.Frames.{tabulate}
use Rattle.lists.proofs.Parts.{take_map, drop_map}
use Rattle.nsdf.specs.Nsdf.{cross, power, square, normalised, nsdf, window}
use Rattle.nsdf.specs.Period.{measured, estimated, period_hz}
use Rattle.nsdf.proofs.Whole.{abs_mul}

-- ---- signs

neg_mul : (a b : ℤ) → neg_ℤ a *ℤ b ≡ neg_ℤ (a *ℤ b)
neg_mul (pos zero) b = zero-*ℤ b ∙ sym (ap neg_ℤ (zero-*ℤ b))
neg_mul (pos (suc n)) (pos m) = refl
neg_mul (pos (suc n)) (negsuc m) = sym (neg_ℤ-neg_ℤ (pos (suc n * suc m)))
neg_mul (negsuc n) (pos m) = sym (neg_ℤ-neg_ℤ (pos (suc n * m)))
neg_mul (negsuc n) (negsuc m) = refl

mul_neg : (a b : ℤ) → a *ℤ neg_ℤ b ≡ neg_ℤ (a *ℤ b)
mul_neg a b = *ℤ_comm a (neg_ℤ b) ∙ neg_mul b a ∙ ap neg_ℤ (*ℤ_comm b a)

both_neg : (a b : ℤ) → neg_ℤ a *ℤ neg_ℤ b ≡ a *ℤ b
both_neg a b = neg_mul a (neg_ℤ b) ∙ ap neg_ℤ (mul_neg a b) ∙ neg_ℤ-neg_ℤ (a *ℤ b)

-- ---- (k x) (k y) is k² (x y)

squares : (a b c : ℕ) → a * b * (a * c) ≡ a * a * (b * c)
squares a b c = simp (mul_assoc, mul_left_comm)

scaled_pos : (a : ℕ) (x y : ℤ) → (pos a *ℤ x) *ℤ (pos a *ℤ y) ≡ pos (a * a) *ℤ (x *ℤ y)
scaled_pos a (pos b) (pos c) = ap pos (squares a b c)
scaled_pos a (pos b) (negsuc c) =
    mul_neg (pos (a * b)) (pos (a * suc c)) ∙ ap (λ (n : ℕ). neg_ℤ (pos n)) (squares a b (suc c)) ∙ sym (mul_neg (pos (a * a)) (pos (b * suc c)))
scaled_pos a (negsuc b) (pos c) =
    neg_mul (pos (a * suc b)) (pos (a * c)) ∙ ap (λ (n : ℕ). neg_ℤ (pos n)) (squares a (suc b) c) ∙ sym (mul_neg (pos (a * a)) (pos (suc b * c)))
scaled_pos a (negsuc b) (negsuc c) = both_neg (pos (a * suc b)) (pos (a * suc c)) ∙ ap pos (squares a (suc b) (suc c))

scaled : (k x y : ℤ) → (k *ℤ x) *ℤ (k *ℤ y) ≡ pos (square k) *ℤ (x *ℤ y)
scaled (pos a) x y = scaled_pos a x y
scaled (negsuc a) x y =
    ap (λ (z : ℤ). z *ℤ (negsuc a *ℤ y)) (neg_mul (pos (suc a)) x)
    ∙ ap (λ (z : ℤ). neg_ℤ (pos (suc a) *ℤ x) *ℤ z) (neg_mul (pos (suc a)) y)
    ∙ both_neg (pos (suc a) *ℤ x) (pos (suc a) *ℤ y)
    ∙ scaled_pos (suc a) x y

-- ---- a multiple of a sum

swap : (a b c d : ℤ) → (a +ℤ b) +ℤ (c +ℤ d) ≡ (a +ℤ c) +ℤ (b +ℤ d)
swap a b c d =
    +ℤ_assoc a b (c +ℤ d)
    ∙ ap (λ (z : ℤ). a +ℤ z) (sym (+ℤ_assoc b c d) ∙ ap (λ (z : ℤ). z +ℤ d) (+ℤ_comm b c) ∙ +ℤ_assoc c b d)
    ∙ sym (+ℤ_assoc a c (b +ℤ d))

times_sum : (n : ℕ) (x y : ℤ) → pos n *ℤ (x +ℤ y) ≡ pos n *ℤ x +ℤ pos n *ℤ y
times_sum zero x y = zero-*ℤ (x +ℤ y) ∙ sym (ap (λ (z : ℤ). z +ℤ pos zero *ℤ y) (zero-*ℤ x) ∙ ap (λ (z : ℤ). pos zero +ℤ z) (zero-*ℤ y))
times_sum (suc n) x y =
    suc_ℤ-*ℤ (pos n) (x +ℤ y)
    ∙ ap (λ (z : ℤ). z +ℤ (x +ℤ y)) (times_sum n x y)
    ∙ swap (pos n *ℤ x) (pos n *ℤ y) x y
    ∙ sym (ap (λ (z : ℤ). z +ℤ pos (suc n) *ℤ y) (suc_ℤ-*ℤ (pos n) x) ∙ ap (λ (z : ℤ). (pos n *ℤ x +ℤ x) +ℤ z) (suc_ℤ-*ℤ (pos n) y))

-- ---- the sums

cross_scaled : (k : ℤ) (xs ys : List ℤ) → cross (map (λ (x : ℤ). k *ℤ x) xs) (map (λ (x : ℤ). k *ℤ x) ys) ≡ pos (square k) *ℤ cross xs ys
unfolding cross
cross_scaled k [] ys = sym (*ℤ-zero (pos (square k)))
cross_scaled k (x ∷ xs) [] = sym (*ℤ-zero (pos (square k)))
cross_scaled k (x ∷ xs) (y ∷ ys) =
    ap (λ (z : ℤ). (k *ℤ x) *ℤ (k *ℤ y) +ℤ z) (cross_scaled k xs ys)
    ∙ ap (λ (z : ℤ). z +ℤ pos (square k) *ℤ cross xs ys) (scaled k x y)
    ∙ sym (times_sum (square k) (x *ℤ y) (cross xs ys))

square_scaled : (k x : ℤ) → square (k *ℤ x) ≡ square k * square x
square_scaled k x = rw (abs_mul k x) (squares (nat_abs k) (nat_abs x) (nat_abs x))

power_scaled : (k : ℤ) (xs ys : List ℤ) → power (map (λ (x : ℤ). k *ℤ x) xs) (map (λ (x : ℤ). k *ℤ x) ys) ≡ square k * power xs ys
unfolding power
power_scaled k [] ys = sym (mul-zero (square k))
power_scaled k (x ∷ xs) [] = sym (mul-zero (square k))
power_scaled k (x ∷ xs) (y ∷ ys) = rw (power_scaled k xs ys, square_scaled k x, square_scaled k y) (simp mul-add)

-- ---- the fraction

ratio_neg : (f : Format) (m b : ℕ) → 0 < m → ratio f (neg_ℤ (pos m)) b ≡ round f true m b
ratio_neg f zero b h = absurd (not_below h)
  where
    not_below : 0 < 0 → ⊥
    not_below h = omega arith
ratio_neg f (suc m) b h = refl

fraction : (n k e : ℕ) → 2 * (k * n) * e ≡ 2 * n * (k * e)
fraction n k e = simp (mul_assoc, mul_comm)

ratio_scaled : (f : Format) (k e : ℕ) (z : ℤ) → 0 < k → 0 < e → ratio f (pos 2 *ℤ (pos k *ℤ z)) (k * e) ≡ ratio f (pos 2 *ℤ z) e
ratio_scaled f k e (pos n) K E = round_same f false (2 * (k * n)) (k * e) (2 * n) e (mul-pos K E) E (fraction n k e)
ratio_scaled f k e (negsuc n) K E =
    ap (λ (z : ℤ). ratio f z (k * e)) (mul_neg (pos 2) (pos (k * suc n)))
    ∙ ratio_neg f (2 * (k * suc n)) (k * e) (mul-pos (suc-le-suc zero-le) (mul-pos K (suc-le-suc zero-le)))
    ∙ round_same f true (2 * (k * suc n)) (k * e) (2 * suc n) e (mul-pos K E) E (fraction (suc n) k e)
    ∙ sym (ratio_neg f (2 * suc n) e (mul-pos (suc-le-suc zero-le) (suc-le-suc zero-le)))

-- ---- the law

square_pos : (k : ℤ) → (k ≡ pos 0 → ⊥) → 0 < square k
square_pos (pos zero) h = absurd (h refl)
square_pos (pos (suc n)) h = mul-pos (suc-le-suc zero-le) (suc-le-suc zero-le)
square_pos (negsuc n) h = mul-pos (suc-le-suc zero-le) (suc-le-suc zero-le)

module _ (k : ℤ) (nonzero : k ≡ pos 0 → ⊥) where
  -- by whether there is energy
  value : (z : ℤ) (e : ℕ) → normalised (pos (square k) *ℤ z) (square k * e) ≡ normalised z e
  value z zero = rw mul-zero
  value z (suc e) =
      let K : 0 < square k = square_pos k nonzero in
      let E : 0 < suc e = suc-le-suc zero-le in
      let some : 0 < square k * suc e = mul-pos K E in
      rw (ne_eqb (square k * suc e) 0 (λ q. lt_irrefl 0 (subst (λ (n : ℕ). 0 < n) q some)), eqb-suc-zero e) (ratio_scaled binary64 (square k) (suc e) z K E)

  pub nsdf_scaled : (w : List ℤ) (lag : ℕ) → nsdf (map (λ (x : ℤ). k *ℤ x) w) lag ≡ nsdf w lag
  unfolding nsdf
  nsdf_scaled w lag = rw (drop_map, cross_scaled k, power_scaled k) (value (cross w (drop lag w)) (power w (drop lag w)))

  window_scaled : (xs : List ℤ) (centre : ℕ) → window (map (λ (x : ℤ). k *ℤ x) xs) centre ≡ map (λ (x : ℤ). k *ℤ x) (window xs centre)
  unfolding window
  window_scaled xs centre = rw (take_map, drop_map)

  pub period_scaled : (xs : List ℤ) (centre : ℕ) → period_hz (map (λ (x : ℤ). k *ℤ x) xs) centre ≡ period_hz xs centre
  unfolding period_hz measured
  period_scaled xs centre =
      ap estimated
      (ap (λ (w : List ℤ). tabulate (λ k. nsdf w (31 + k)) 200) (window_scaled xs centre)
      ∙ ap (λ (f : ℕ → Float). tabulate f 200) (fun_ext (λ k. nsdf_scaled (window xs centre) (31 + k))))
