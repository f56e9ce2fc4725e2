-- The size of a voiced run is how many voiced frames lie from its first to its last (`run_sizes`), so a long run has 5 or more (`long_run_frames`). Assumes nothing.
use Prim.Native.Nat.{ℕ, zero, suc, ◌+◌, ◌-◌, ◌≤◌}
use native.Mathlib.Omega.{arith}
use mathlib.Core.Path.{◌≡◌, refl, ap, ap₂, ◌∙◌}
use mathlib.Core.Bool.{Bool, true, false, cond}
use mathlib.Core.List.{List, [], ◌∷◌, ◌++◌, map}
use lib.ListN.{length, length-append}
use lib.Ieee.{Float}
use borrow.Author.Tests.{leb-true}
use Rattle.lists.specs.Results.{cons_if, filter, keep}
use Rattle.lists.specs.By.{Each}
use Rattle.lists.proofs.Entries.{each_both, each_filter, each_kept, each_of_map}
use Rattle.lists.proofs.Fill.{keep_split}
use Rattle.runs.specs.declared.voiced.Run.{Run}
use Rattle.lists.specs.Grouped.{attach, grouped}
use Rattle.runs.specs.Runs.{span, voiced, voiced_frames, sole, close, joined, voiced_runs, long, long_runs}
use Rattle.repair.specs.Repair.{voiced_in}

module _ (t : ℕ → Bool) where
  keep_first : (i k : ℕ) → t i ≡ true → keep t i (suc k) ≡ i ∷ keep t (suc i) k
  unfolding keep
  keep_first i k e = rw e

  -- a part of the frames from i on has no more that pass
  pub keep_part : (i a b k : ℕ) → a + b ≤ k → length (keep t (i + a) b) ≤ length (keep t i k)
  keep_part i a b k h =
      let e : k ≡ a + (b + (k - a - b)) = omega (arith, h) in
      let l = ap (λ (n : ℕ). length (keep t i n)) e ∙ ap length (keep_split t i a (b + (k - a - b)) ∙ ap (λ (r : List ℕ). keep t i a ++ r) (keep_split t (i + a) b (k - a - b))) in
      omega (arith, l, length-append (keep t i a) (keep t (i + a) b ++ keep t (i + a + b) (k - a - b)), length-append (keep t (i + a) b) (keep t (i + a + b) (k - a - b)))

  -- ---- the runs that the frames from i on make
  abbrev Sized : Run → Type 0
  Sized r = length (keep t r.first (r.last + 1 - r.first)) ≡ r.size

  -- the first of them begins with the first frame that passes
  abbrev Begins : ℕ → List Run → Type 0
  Begins i [] = Unit
  Begins i (r ∷ rs) = (i ≤ r.first) × (r.first ≤ r.last) × (keep t i (r.first - i) ≡ [])

  begins_on : (i : ℕ) (rs : List Run) → t i ≡ false → Begins (suc i) rs → Begins i rs
  unfolding keep
  begins_on i [] e h = tt
  begins_on i (r ∷ rs) e h =
      let n : r.first - i ≡ suc (r.first - suc i) = omega (arith, h.0) in
      (omega (arith, h.0), h.1, ap (keep t i) n ∙ rw e h.2)

  sole_sized : (i : ℕ) → t i ≡ true → Sized (sole i)
  unfolding keep
  sole_sized i e =
      let n : i + 1 - i ≡ 1 = omega arith in
      ap (λ (k : ℕ). length (keep t i k)) n ∙ rw e

  joined_sized : (i : ℕ) (r : Run) (rs : List Run) → t i ≡ true → Begins (suc i) (r ∷ rs) → Sized r → Sized (joined (sole i) r)
  joined_sized i r rs e h s =
      let m : r.last + 1 - i ≡ suc (r.first - suc i + (r.last + 1 - r.first)) = omega (arith, h.0, h.1) in
      let n : suc i + (r.first - suc i) ≡ r.first = omega (arith, h.0) in
      ap (λ (k : ℕ). length (keep t i k)) m
      ∙ ap length (keep_first i (r.first - suc i + (r.last + 1 - r.first)) e)
      ∙ ap (λ (l : List ℕ). suc (length l)) (keep_split t (suc i) (r.first - suc i) (r.last + 1 - r.first) ∙ ap₂ (λ (l : List ℕ) (j : ℕ). l ++ keep t j (r.last + 1 - r.first)) h.2 n)
      ∙ omega (arith, s)

  sizes_from : (i k : ℕ) → Each Sized (grouped close joined (map sole (keep t i k))) × Begins i (grouped close joined (map sole (keep t i k)))
  unfolding keep grouped attach
  sizes_from i zero = (tt, tt)
  sizes_from i (suc k) = go (t i) refl (sizes_from (suc i) k)
    where
      runs : List Run
      runs = grouped close joined (map sole (keep t (suc i) k))

      begun : keep t i (i - i) ≡ []
      begun = let n : i - i ≡ 0 = omega arith in ap (keep t i) n

      put : t i ≡ true → (rs : List Run) → Each Sized rs → Begins (suc i) rs → Each Sized (attach close joined (sole i) rs) × Begins i (attach close joined (sole i) rs)
      put e [] s h = ((sole_sized i e, tt), (omega arith, omega arith, begun))
      put e (r ∷ rs) s h = pick (close (sole i) r)
        where
          pick : (b : Bool) → Each Sized (cond b (joined (sole i) r ∷ rs) (sole i ∷ r ∷ rs)) × Begins i (cond b (joined (sole i) r ∷ rs) (sole i ∷ r ∷ rs))
          pick true = ((joined_sized i r rs e h s.0, s.1), (omega arith, omega (arith, h.0, h.1), begun))
          pick false = ((sole_sized i e, s), (omega arith, omega arith, begun))

      go : (b : Bool) → t i ≡ b → Each Sized runs × Begins (suc i) runs
          → Each Sized (grouped close joined (map sole (cons_if b i (keep t (suc i) k)))) × Begins i (grouped close joined (map sole (cons_if b i (keep t (suc i) k))))
      go true e h = put e runs h.0 h.1
      go false e h = (h.0, begins_on i runs e h.1)

module _ (pitch : List Float) where
  pub run_sizes : Each (λ r. length (voiced_in pitch (span r)) ≡ r.size) (voiced_runs pitch)
  unfolding voiced_in voiced_runs voiced_frames
  run_sizes = (sizes_from (voiced pitch) 0 (length pitch)).0

  pub long_run_frames : Each (λ r. 5 ≤ length (voiced_in pitch r)) (long_runs pitch)
  unfolding long_runs
  long_run_frames =
      each_of_map (λ r. 5 ≤ length (voiced_in pitch r)) span (filter long (voiced_runs pitch))
      (each_both (λ r. length (voiced_in pitch (span r)) ≡ r.size) (λ r. long r ≡ true) (λ r. 5 ≤ length (voiced_in pitch (span r))) (λ r e l. omega (arith, e, leb-true 5 r.size l))
      (filter long (voiced_runs pitch)) (each_kept (λ r. length (voiced_in pitch (span r)) ≡ r.size) long (voiced_runs pitch) run_sizes) (each_filter long (voiced_runs pitch)))
