-- What stands for each frame of a track, and which frames pass a test. Definitions only.
use Rattle.std.specs.Prelude.{ℕ, zero, suc, ◌+◌, Bool, true, false, ◌&&◌, ◌||◌, cond, List, [], ◌∷◌, get_or, Float, Option, None, Some}
use Rattle.std.specs.Float.{nan}

-- the entry of frame i; past the end of the track a NaN
abbrev pub at : List Float → ℕ → Float
at s i = get_or s i nan

-- the n values f 0, f 1, ..
unfoldable pub tabulate : {A : Type 0} → (ℕ → A) → ℕ → List A
tabulate f zero = []
tabulate f (suc n) = f 0 ∷ tabulate (λ i. f (suc i)) n

-- some of the k frames from i on passes
unfoldable pub some_frame : (ℕ → Bool) → ℕ → ℕ → Bool
some_frame t i zero = false
some_frame t i (suc k) = t i || some_frame t (i + 1) k

-- each of the k frames from i on passes
unfoldable pub all_frames : (ℕ → Bool) → ℕ → ℕ → Bool
all_frames t i zero = true
all_frames t i (suc k) = t i && all_frames t (i + 1) k

-- the first frame from i on that passes, at most k frames on
unfoldable pub first_frame : (ℕ → Bool) → ℕ → ℕ → ℕ
first_frame t i zero = i
first_frame t i (suc k) = cond (t i) i (first_frame t (i + 1) k)

-- the first of the k frames from i on that passes, where one does
unfoldable pub first_in : (ℕ → Bool) → ℕ → ℕ → Option ℕ
first_in t i zero = None
first_in t i (suc k) = cond (t i) (Some i) (first_in t (i + 1) k)

-- the last frame up to frame i that passes; frame 0 where none does
unfoldable pub last_frame : (ℕ → Bool) → ℕ → ℕ
last_frame t zero = zero
last_frame t (suc i) = cond (t (suc i)) (suc i) (last_frame t i)
