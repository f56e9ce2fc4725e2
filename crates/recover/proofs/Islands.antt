-- What is recovered lies apart from the pitches as given: any frame keeps what it had, or no frame within 3 of it had a pitch (`recovered_apart`). For each frame
-- of a stretch of 2 or more has an estimate, so it had no pitch, and neither had the 3 before and the 3 after a stretch that is recovered. Assumes nothing.
use Prim.Native.Nat.{ℕ, ◌+◌, ◌-◌, ◌≤◌, ◌<◌, min}
use native.Mathlib.Nat.{eq-or-lt_of_le}
use native.Mathlib.Omega.{arith}
use mathlib.Core.Path.{◌≡◌, refl, sym, ◌∙◌}
use mathlib.Core.Bool.{Bool, true, false, ◌&&◌, true≢false}
use mathlib.Core.List.{List}
use mathlib.Core.Logic.{◌⊎◌, inl, inr, ⊎_elim}
use borrow.Author.Tests.{leb-true}
use lib.Dec.{leb}
use lib.ListN.{length, get_or}
use lib.Ieee.{Float}
use Rattle.floats.proofs.Less.{le_or_lt}
use Rattle.lists.specs.Frames.{at}
use Rattle.lists.proofs.Tests.{and_cases}
use Rattle.lists.proofs.Walks.{NonePass, none_join, back_is, all_at}
use Rattle.std.specs.Prelude.{Option, None}
use Rattle.recover.specs.Estimates.{pitchless, estimates}
use Rattle.recover.specs.Recovered.{starts, start_of, end_of, all_pitchless, island, recovered_by}
use Rattle.recover.proofs.Trying.{length_estimates, estimate_of, untried}
use Rattle.recover.proofs.Walking.{none_starts, next_starts, first_after, end_above, end_within}
use Rattle.recover.proofs.Kept.{off_island, recovered_at_lem, given_at}

-- ---- the parts of the test
pub island_parts : (given : List Float) (s e : ℕ) → island given s e ≡ true → (3 ≤ e - s) × (all_pitchless given (s - 3) (min 3 s) ≡ true) × (all_pitchless given e 3 ≡ true)
island_parts given s e t =
    let a = and_cases (leb 3 (e - s)) (all_pitchless given (s - 3) (min 3 s) && all_pitchless given e 3) t in
    let b = and_cases (all_pitchless given (s - 3) (min 3 s)) (all_pitchless given e 3) a.1 in
    (leb-true 3 (e - s) a.0, b.0, b.1)

-- ---- the stretch of a frame
module _ (es : List (Option Float)) (i : ℕ) where
  -- none starts inside it
  none_inside : NonePass (starts es) (start_of es i + 1) (end_of es i)
  none_inside = none_join (starts es) (back_is (starts es) i).after (first_after es i).before

  -- so where it has 2 frames or more, each has an estimate
  all_estimated : start_of es i + 1 < end_of es i → (k : ℕ) → start_of es i ≤ k → k < end_of es i → get_or es k None ≡ None → ⊥
  all_estimated two k low high e =
      ⊎_elim
      (λ q. true≢false (sym (next_starts es k e) ∙ none_inside (k + 1) (omega arith) (omega arith)))
      (λ l. true≢false (sym (none_starts es k e) ∙ none_inside k (omega arith) high))
      (eq-or-lt_of_le low)

-- ---- one that is recovered, where frames with a pitch have no estimate
module _ (given : List Float) (es : List (Option Float)) (no-estimate : (k : ℕ) → k < length es → pitchless given k ≡ false → get_or es k None ≡ None)
    (i : ℕ) (h : i < length es) (lone : island given (start_of es i) (end_of es i) ≡ true) where
  pitchless_inside : (k : ℕ) → start_of es i ≤ k → k < end_of es i → pitchless given k ≡ true
  pitchless_inside k low high = go (pitchless given k) refl
    where
      go : (b : Bool) → pitchless given k ≡ b → b ≡ true
      go true q = refl
      go false q = absurd (all_estimated es i (omega (arith, (island_parts given (start_of es i) (end_of es i) lone).0)) k low high (no-estimate k (omega (arith, end_within es i h)) q))

  pitchless_near : (j : ℕ) → i ≤ j + 3 → j ≤ i + 3 → pitchless given j ≡ true
  pitchless_near j a b =
      let parts = island_parts given (start_of es i) (end_of es i) lone in
      let low = (back_is (starts es) i).high in
      let high = end_above es i in
      ⊎_elim
      (λ from. ⊎_elim
      (λ past. all_at (pitchless given) (end_of es i) 3 j parts.2 past (omega arith))
      (λ before. pitchless_inside j from before)
      (le_or_lt (end_of es i) j))
      (λ before. all_at (pitchless given) (start_of es i - 3) (min 3 (start_of es i)) j parts.1 (omega arith) (omega arith))
      (le_or_lt (start_of es i) j)

module _ (period : ℕ → Option Float) (p : List Float) (s v : List ℕ) where
  -- any frame keeps what it had, or no frame within 3 of it had a pitch as given
  pub recovered_apart : (i : ℕ) → i < length p → (at (recovered_by period p s v) i ≡ at p i) ⊎ ((j : ℕ) → i ≤ j + 3 → j ≤ i + 3 → pitchless p j ≡ true)
  recovered_apart i h = go (island p (start_of es i) (end_of es i)) refl
    where
      es : List (Option Float)
      es = estimates period p s v

      go : (b : Bool) → island p (start_of es i) (end_of es i) ≡ b → (at (recovered_by period p s v) i ≡ at p i) ⊎ ((j : ℕ) → i ≤ j + 3 → j ≤ i + 3 → pitchless p j ≡ true)
      go true q =
          let n = length_estimates period p s v in
          inr (pitchless_near p es (λ k l t. estimate_of period p s v k (omega arith) ∙ untried period p s v k t) i (omega arith) q)
      go false q = inl (recovered_at_lem period p s v i h ∙ off_island p es i q ∙ given_at period p s v i h)
