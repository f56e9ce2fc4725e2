-- Merging of frames, by any test of whether two are one and any choice of which of the two stays. Definitions only.
use Rattle.std.specs.Prelude.{ℕ, ◌≡◌, Bool, false, cond, List, [], ◌∷◌, reverse}

module _ (one : ℕ → ℕ → Bool) (left : ℕ → ℕ → ℕ) where
  -- a frame onto the kept ones, of which the last comes first: where it is one with that, the frame that stays goes onto the others in turn
  unfoldable pub push_by : List ℕ → ℕ → List ℕ
  push_by [] x = x ∷ []
  push_by (prev ∷ kept) x = cond (one prev x) (push_by kept (left prev x)) (x ∷ prev ∷ kept)

  -- frames, from the left to the right, onto the kept ones
  unfoldable pub merge_by : List ℕ → List ℕ → List ℕ
  merge_by kept [] = kept
  merge_by kept (x ∷ xs) = merge_by (push_by kept x) xs

  -- what is kept of some frames, in their order
  unfoldable pub merged : List ℕ → List ℕ
  merged xs = reverse (merge_by [] xs)

-- no two neighbours are one
abbrev pub Apart : (ℕ → ℕ → Bool) → List ℕ → Type 0
Apart one [] = Unit
Apart one (x ∷ []) = Unit
Apart one (x ∷ y ∷ ys) = (one x y ≡ false) × Apart one (y ∷ ys)
