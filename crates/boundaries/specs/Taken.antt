-- Scaffolding of the code's loops: kept frames as marks, and marks of frames. Definitions only.
use Rattle.std.specs.Prelude.{ℕ, ◌+◌, ◌≤◌, ◌≡◌, Bool, false, ◌||◌, List, [], ◌∷◌, map, length, slice_index_or}
use Rattle.lists.specs.Results.{keep}
use Rattle.lists.specs.By.{Each}
use Rattle.lists.specs.Marks.{member}
use Rattle.lists.specs.Candidates.{Candidate, Sound}
use Rattle.boundaries.specs.declared.joints.Joint.{Joint}
use Rattle.boundaries.specs.declared.joints.Joint.TheVariants.{Lowest, Break}
use Rattle.boundaries.specs.declared.taken.Kept.{Kept}
use Rattle.boundaries.specs.Keeping.{add_all}

-- frame i is marked
abbrev pub marked : List Bool → ℕ → Bool
marked m i = slice_index_or m i false

-- the cells of frames: two cells without a frame come first, and two come last
abbrev pub cells : List ℕ → List ℕ
cells = map (λ x. x + 2)

-- a frame within 2 of frame i is kept
abbrev pub kept_near : List Bool → ℕ → Bool
kept_near m i = marked m i || marked m (i + 1) || marked m (i + 2) || marked m (i + 3) || marked m (i + 4)

-- the kept frames are l, and marked are just their cells
pub record Taken (l : List ℕ) (k : Kept) : Type 0 where
  pub size : length k.marks ≡ 2053
  pub count : k.count ≡ length l
  pub marks : (i : ℕ) → marked k.marks i ≡ member (cells l) i

-- whatever frames were kept, there are now those with each of a list added in turn
pub record AddedInTurn (xs : List ℕ) (old new : Kept) : Type 0 where
  pub cap : new.cap ≡ old.cap
  pub adds : (l : List ℕ) → Taken l old → Taken (add_all old.cap l xs) new

-- candidates whose keys can be sorted and whose frames can be tried
pub record Keyed (cs : List Candidate) : Type 0 where
  pub sound : Each Sound cs
  pub within : Each (λ c. c.frame ≤ 2048) cs

-- the frames up to n whose cells are marked, in order
abbrev pub taken_frames : List Bool → ℕ → List ℕ
taken_frames m n = keep (λ x. marked m (x + 2)) 0 (n + 1)

-- the frames that pass are marked besides those that were
pub record Spread (t : ℕ → Bool) (old new : List Bool) : Type 0 where
  pub size : length new ≡ length old
  pub spreads : (x : ℕ) → marked new x ≡ (marked old x || t x)

-- the frames of the joint that the code hands on: one, or both edges of a break
abbrev pub joint_frames : Joint → List ℕ
joint_frames (Lowest m) = m ∷ []
joint_frames (Break l f) = l ∷ f ∷ []
