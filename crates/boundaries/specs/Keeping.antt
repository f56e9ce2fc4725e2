-- Frames kept one by one: at most so many, and any two more than 2 frames apart. Definitions only.
use Rattle.std.specs.Prelude.{ℕ, ◌+◌, Bool, true, ◌&&◌, ◌||◌, cond, List, [], ◌∷◌, ◌++◌, length, ltb, eqb}

-- a frame is more than 2 from each of a list
unfoldable pub clear : ℕ → List ℕ → Bool
clear at [] = true
clear at (k ∷ ks) = (ltb (k + 2) at || ltb (at + 2) k) && clear at ks

-- one more frame, unless `cap` are kept already or one within 2 frames of it is
unfoldable pub try_add : ℕ → List ℕ → ℕ → List ℕ
try_add cap kept at = cond (ltb (length kept) cap && clear at kept) (kept ++ (at ∷ [])) kept

-- each of a list in turn
unfoldable pub add_all : ℕ → List ℕ → List ℕ → List ℕ
add_all cap kept [] = kept
add_all cap kept (c ∷ cs) = add_all cap (try_add cap kept c) cs

-- the region's two ends, which may be one frame
abbrev pub ends : ℕ → ℕ → List ℕ
ends start end = cond (eqb start end) (start ∷ []) (start ∷ end ∷ [])
