-- The whole part of the rank 0.10 * (count - 1), an f64, is (count - 1) div 10 for every count up to 2,048: one test that is computed. Assumes nothing.
use Rattle.std.proofs.Common.{◌≡◌, ℕ, zero, suc, ◌-◌, ◌/◌, ◌<◌, ◌≤◌, Bool, true, ◌&&◌, T, eqb, ◌⊎◌, sym, subst, inl, inr, le_of_suc-le-suc, not-suc-le-zero, eq-or-lt_of_le, arith, eqb→eq}
use lib.Ieee.{mul, of_int, round, to_unsigned}
use lib.Ieee.Fits.{and_l, and_r}
use Rattle.region.specs.Percentile.{rank_of, whole_part}

abbrev right : ℕ → Bool
right count = eqb (whole_part (rank_of count)) ((count - 1) / 10)

-- the test passes at each number below n
abbrev below : ℕ → Bool
below zero = true
below (suc n) = right n && below n

at : (n : ℕ) → T (below n) → (k : ℕ) → k < n → T (right k)
at zero t k h = absurd (not-suc-le-zero h)
at (suc n) t k h = go (eq-or-lt_of_le (le_of_suc-le-suc h)) (at n (and_r (right n) (below n) t) k)
  where
    go : (k ≡ n) ⊎ (k < n) → (k < n → T (right k)) → T (right k)
    go (inl e) sooner = subst (λ (z : ℕ). T (right z)) (sym e) (and_l (right n) (below n) t)
    go (inr l) sooner = sooner l

passes : T (below 2049)
unfolding mul of_int round to_unsigned
passes = tt

pub whole_part_lem : (count : ℕ) → count ≤ 2048 → whole_part (rank_of count) ≡ (count - 1) / 10
whole_part_lem count h = eqb→eq (whole_part (rank_of count)) ((count - 1) / 10) (at 2049 passes count (omega arith))
