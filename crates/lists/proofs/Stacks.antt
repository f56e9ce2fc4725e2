-- A stack whose entries fall. Assumes nothing.
use Prim.Native.Nat.{ℕ, ◌+◌, ◌<◌, ◌≤◌}
use native.Mathlib.Omega.{arith}
use mathlib.Core.Path.{sym, subst}
use mathlib.Core.List.{List, [], ◌∷◌, ◌++◌, reverse, reverse-cons}
use lib.ListN.{length}
use Rattle.lists.specs.Sorted.{StrictlyRises}
use Rattle.lists.specs.Stack.{Falls}

pub falls_under : (x y : ℕ) (xs : List ℕ) → x ≤ y → Falls x xs → Falls y xs
falls_under x y [] h f = tt
falls_under x y (z ∷ zs) h f = (omega (arith, f.0), f.1)

pub falls_few : (n : ℕ) (xs : List ℕ) → Falls n xs → length xs ≤ n
falls_few n [] f = omega arith
falls_few n (x ∷ xs) f = omega (arith, falls_few x xs f.1, f.0)

strict_snoc : (lo x n : ℕ) (xs : List ℕ) → StrictlyRises lo x xs → lo ≤ x → x < n → StrictlyRises lo n (xs ++ (x ∷ []))
strict_snoc lo x n [] c h i = (h, i, tt)
strict_snoc lo x n (y ∷ ys) c h i = (c.0, omega (arith, c.1), strict_snoc (y + 1) x n ys c.2 (omega (arith, c.1)) i)

-- from the bottom up they rise
pub falls_rise : (n : ℕ) (xs : List ℕ) → Falls n xs → StrictlyRises 0 n (reverse xs)
falls_rise n [] f = tt
falls_rise n (x ∷ xs) f = subst (StrictlyRises 0 n) (sym (reverse-cons x xs)) (strict_snoc 0 x n (reverse xs) (falls_rise x xs f.1) (omega arith) f.0)
