-- Which run a frame belongs to. Definitions only.
use Rattle.std.specs.Prelude.{ℕ, ◌+◌, ◌-◌, ◌≤◌, ◌<◌, max, ◌≡◌, Bool, false, not, cond, List, [], ◌∷◌, ◌++◌, eqb, length, Option, None, Some}
use Rattle.lists.specs.By.{Each}
use Rattle.runs.specs.declared.voiced.Span.{Span}
use Rattle.runs.specs.declared.near.Found.{Found}

-- how far a frame lies outside a run
abbrev pub distance : Span → ℕ → ℕ
distance r at = max (r.first - at) (at - r.last)

-- the run r, which has number k
abbrev pub at_number : ℕ → Span → Found
at_number k r = record { number = k; run = r }

-- of runs, numbered from k, the first that is d frames away from a frame: its number, and the run
unfoldable pub away_by : ℕ → ℕ → ℕ → List Span → Option Found
away_by d at k [] = None
away_by d at k (r ∷ rs) = cond (eqb (distance r at) d) (Some (at_number k r)) (away_by d at (k + 1) rs)

-- what is found first, or else what is found second
infixl 40 ◌or_else◌
abbrev pub ◌or_else◌ : Option Found → Option Found → Option Found
Some f or_else other = Some f
None or_else other = other

-- the run that a frame belongs to: the first that it lies in, or else the first that is 1 frame away, or else the first that is 2 away
unfoldable pub run_of : List Span → ℕ → Option Found
run_of rs at = away_by 0 at 0 rs or_else away_by 1 at 0 rs or_else away_by 2 at 0 rs

-- the number of the run that is found
abbrev pub number_of : Option Found → ℕ
number_of (Some f) = f.number
number_of None = 0

-- two different runs are found
abbrev pub differ : Option Found → Option Found → Bool
differ (Some f) (Some g) = not (eqb f.number g.number)
differ (Some f) None = false
differ None g = false

-- two frames belong to two different runs
unfoldable pub separate : List Span → ℕ → ℕ → Bool
separate rs a b = differ (run_of rs a) (run_of rs b)

-- ---- what is found
-- r, the k-th of the runs, is within 2 frames; no run before it is as near, and none after it is nearer
pub record Nearest (at : ℕ) (rs : List Span) (k : ℕ) (r : Span) : Type 0 where
  pub earlier : List Span
  pub later : List Span
  pub split : rs ≡ earlier ++ (r ∷ later)
  pub index : k ≡ length earlier
  pub near : distance r at ≤ 2
  pub farther : Each (λ s. distance r at < distance s at) earlier
  pub no_nearer : Each (λ s. distance r at ≤ distance s at) later

-- what is found is the nearest run; where nothing is, none is within 2 frames
abbrev pub Answers : ℕ → List Span → Option Found → Type 0
Answers at rs (Some f) = Nearest at rs f.number f.run
Answers at rs None = Each (λ s. 2 < distance s at) rs
