-- A fold over a list gives its smallest and its largest entry, and the smallest above a number. Assumes nothing.
use mathlib.Core.Path.{◌≡◌, refl, ◌∙◌}
use mathlib.Core.Bool.{Bool, true, false, cond}
use mathlib.Core.List.{List, [], ◌∷◌}
use Prim.Native.Nat.{ℕ, ◌≤◌, min, max}
use native.Mathlib.Omega.{arith}
use lib.Dec.{ltb}
use Rattle.std.specs.List.{fold, reduce}
use Rattle.std.specs.Prelude.{unwrap_or}
use Rattle.lists.specs.By.{Each}
use Rattle.lists.specs.Results.{cons_if, filter}
use Rattle.select.specs.Order.{least_of, greatest_of, least_above}
use Rattle.select.proofs.Ranks.{least_small}

from : (b : ℕ) (l : List ℕ) → b ≤ 4294967295 → fold min b l ≡ min b (least_of l)
from b [] h = omega arith
from b (y ∷ l) h = from (min b y) l (omega arith) ∙ omega arith

-- the keys are 32-bit numbers
pub least_reduced : (l : List ℕ) → Each (λ y. y ≤ 4294967295) l → unwrap_or (reduce min l) 4294967295 ≡ least_of l
least_reduced [] h = refl
least_reduced (y ∷ l) h = from y l h.0

up_from : (b : ℕ) (l : List ℕ) → fold max b l ≡ max b (greatest_of l)
up_from b [] = omega arith
up_from b (y ∷ l) = up_from (max b y) l ∙ omega arith

pub greatest_reduced : (l : List ℕ) → unwrap_or (reduce max l) 0 ≡ greatest_of l
greatest_reduced [] = refl
greatest_reduced (y ∷ l) = up_from y l

above_from : (x b : ℕ) (l : List ℕ) → b ≤ 4294967295 → fold (λ b k. min b (cond (ltb x k) k 4294967295)) b l ≡ min b (least_above x l)
unfolding filter
above_from x b [] h = omega arith
above_from x b (y ∷ l) h = go (ltb x y) (λ c g. above_from x c l g)
  where
    go : (t : Bool) → ((c : ℕ) → c ≤ 4294967295 → fold (λ b k. min b (cond (ltb x k) k 4294967295)) c l ≡ min c (least_above x l))
        → fold (λ b k. min b (cond (ltb x k) k 4294967295)) (min b (cond t y 4294967295)) l ≡ min b (least_of (cons_if t y (filter (ltb x) l)))
    go true later = later (min b y) (omega arith) ∙ omega arith
    go false later = later (min b 4294967295) (omega arith) ∙ omega arith

pub above_fold : (x : ℕ) (l : List ℕ) → fold (λ b k. min b (cond (ltb x k) k 4294967295)) 4294967295 l ≡ least_above x l
above_fold x l = above_from x 4294967295 l (omega arith) ∙ omega (arith, least_small (filter (ltb x) l))
