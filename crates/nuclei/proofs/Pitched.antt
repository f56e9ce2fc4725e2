-- Every frame of a long run has a pitch within 2 frames, and so has every frame near a voiced one. Assumes nothing.
use Prim.Native.Nat.{ℕ, ◌+◌, ◌-◌, ◌<◌, ◌≤◌, min}
use native.Mathlib.Omega.{arith}
use mathlib.Core.Path.{◌≡◌, refl}
use mathlib.Core.Bool.{Bool, true, false, cond}
use mathlib.Core.List.{List, [], ◌∷◌, map}
use lib.ListN.{length}
use lib.Ieee.{Float}
use lib.Dec.{leb}
use borrow.Author.Tests.{leb-true, leb-false}
use Rattle.lists.specs.Results.{filter}
use Rattle.lists.specs.By.{Each}
use Rattle.lists.proofs.Entries.{each_map, each_kept, each_of_map}
use Rattle.lists.proofs.Members.{each_keep}
use Rattle.lists.proofs.Walks.{some_at}
use Rattle.lists.specs.Grouped.{attach, grouped}
use Rattle.runs.specs.declared.voiced.Span.{Span}
use Rattle.runs.specs.Runs.{voiced, voiced_frames, sole, close, joined, voiced_runs, long, span, long_runs}
use Rattle.runs.specs.declared.voiced.Run.{Run}
use Rattle.nuclei.specs.Peaks.{pitch_near}

module _ (pitch : List Float) where
  -- a frame at most 2 after a voiced one
  near_voiced : (f i : ℕ) → (f < length pitch) × (voiced pitch f ≡ true) → f ≤ i → i ≤ f + 2 → pitch_near pitch i ≡ true
  unfolding pitch_near
  near_voiced f i v h j = some_at (voiced pitch) (i - 2) (min (i + 3) (length pitch) - (i - 2)) f (omega arith) (omega (arith, v.0)) v.1

  -- every frame of a run has a pitch near
  abbrev pub PitchedRun : Span → Type 0
  PitchedRun r = (i : ℕ) → r.first ≤ i → i ≤ r.last → pitch_near pitch i ≡ true

  runs_pitched : (fs : List ℕ) → Each (λ f. (f < length pitch) × (voiced pitch f ≡ true)) fs → Each (λ r. PitchedRun (span r)) (grouped close joined (map sole fs))
  unfolding grouped attach
  runs_pitched [] v = tt
  runs_pitched (f ∷ fs) v = go (grouped close joined (map sole fs)) (runs_pitched fs v.1)
    where
      alone : PitchedRun (span (sole f))
      alone i h j = near_voiced f i v.0 h (omega arith)

      go : (rs : List Run) → Each (λ r. PitchedRun (span r)) rs → Each (λ r. PitchedRun (span r)) (attach close joined (sole f) rs)
      go [] e = (alone, tt)
      go (r ∷ rs) e = pick (close (sole f) r) refl
        where
          across : leb (r.first - f) 3 ≡ true → PitchedRun (span (joined (sole f) r))
          across c i h j =
              let n : r.first - f ≤ 3 = leb-true (r.first - f) 3 c in
              side (leb r.first i) refl n
            where
              side : (b : Bool) → leb r.first i ≡ b → r.first - f ≤ 3 → pitch_near pitch i ≡ true
              side true q n = e.0 i (leb-true r.first i q) j
              side false q n = near_voiced f i v.0 h (omega (arith, leb-false r.first i q))

          pick : (b : Bool) → close (sole f) r ≡ b → Each (λ r. PitchedRun (span r)) (cond b (joined (sole f) r ∷ rs) (sole f ∷ r ∷ rs))
          pick true c = (across c, e.1)
          pick false c = (alone, e)

  pub long_pitched : Each PitchedRun (long_runs pitch)
  unfolding long_runs voiced_runs voiced_frames
  long_pitched =
      each_of_map PitchedRun span (filter long (voiced_runs pitch))
      (each_kept (λ r. PitchedRun (span r)) long (voiced_runs pitch)
      (runs_pitched (voiced_frames pitch)
      (each_map (λ x. (0 ≤ x) × (x < 0 + length pitch) × (voiced pitch x ≡ true)) (λ f. (f < length pitch) × (voiced pitch f ≡ true)) (λ x h. (omega (arith, h.1), h.2)) (voiced_frames pitch) (each_keep (voiced pitch) 0 (length pitch)))))
