-- A list of what a function gives at one number after another. Assumes nothing.
use Prim.Native.Nat.{ℕ, zero, suc, ◌<◌}
use native.Mathlib.Omega.{arith}
use mathlib.Core.Path.{◌≡◌, refl, ap}
use lib.ListN.{length, get_or}
use Rattle.lists.specs.By.{Each}
use Rattle.lists.specs.Frames.{tabulate}

module _ {A : Type 0} where
  pub length_tabulate : (f : ℕ → A) (n : ℕ) → length (tabulate f n) ≡ n
  unfolding tabulate
  length_tabulate f zero = refl
  length_tabulate f (suc n) = ap suc (length_tabulate (λ i. f (suc i)) n)

  pub tabulate_at : (f : ℕ → A) (n i : ℕ) (d : A) → i < n → get_or (tabulate f n) i d ≡ f i
  unfolding tabulate
  tabulate_at f zero i d h = absurd (omega arith)
  tabulate_at f (suc n) zero d h = refl
  tabulate_at f (suc n) (suc i) d h = tabulate_at (λ i. f (suc i)) n i d (omega arith)

  pub each_tabulate : (P : A → Type 0) (f : ℕ → A) (n : ℕ) → ((i : ℕ) → P (f i)) → Each P (tabulate f n)
  unfolding tabulate
  each_tabulate P f zero h = tt
  each_tabulate P f (suc n) h = (h 0, each_tabulate P (λ i. f (suc i)) n (λ i. h (suc i)))
