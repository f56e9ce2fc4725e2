-- The joints of neighbouring nuclei. Definitions only.
use Rattle.std.specs.Prelude.{ℕ, ◌+◌, Bool, not, ◌&&◌, cond, List, [], ◌∷◌, ◌++◌, ltb, eqb, Float, Option, None, Some}
use Rattle.lists.specs.Results.{filter}
use Rattle.smooth.specs.Extrema.{argmin_middle, shallow}
use Rattle.runs.specs.declared.voiced.Span.{Span}
use Rattle.runs.specs.Near.{run_of}
use Rattle.runs.specs.declared.near.Found.{Found}

-- of nuclei a < b and the syllable runs that they belong to: both edges of the pitch break, which are the frame after the first run and the first frame of the
-- second, where the runs are two and the level hardly dips between the nuclei; else the frame of the lowest level
abbrev pub joint_by : List Float → Float → ℕ → ℕ → Option Found → Option Found → List ℕ
joint_by level dip a b (Some x) (Some y) = cond (not (eqb x.number y.number) && shallow level a b dip) ((x.run.last + 1) ∷ y.run.first ∷ []) (argmin_middle level a b ∷ [])
joint_by level dip a b (Some x) None = argmin_middle level a b ∷ []
joint_by level dip a b None y = argmin_middle level a b ∷ []

-- the joint of nuclei a < b
unfoldable pub joint : List Float → List Span → Float → ℕ → ℕ → List ℕ
joint level runs dip a b = joint_by level dip a b (run_of runs a) (run_of runs b)

-- the joints of each two neighbours, in order
unfoldable pub joints : List Float → List Span → Float → List ℕ → List ℕ
joints level runs dip [] = []
joints level runs dip (a ∷ []) = []
joints level runs dip (a ∷ b ∷ ns) = joint level runs dip a b ++ joints level runs dip (b ∷ ns)

-- strictly inside the region
abbrev pub inner : ℕ → ℕ → ℕ → Bool
inner start end i = ltb start i && ltb i end

-- those that lie strictly inside the region
unfoldable pub joints_inside : List Float → List Span → Float → ℕ → ℕ → List ℕ → List ℕ
joints_inside level runs dip start end nuclei = filter (inner start end) (joints level runs dip nuclei)
