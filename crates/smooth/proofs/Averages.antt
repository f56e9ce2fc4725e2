-- The means of a track as the code works them out: of five frames at once, and the list of the means. Assumes nothing.
use Prim.Native.Nat.{ℕ, ◌+◌, ◌-◌, ◌≤◌, ◌<◌, min}
use native.Mathlib.Numerals.{add-one}
use native.Mathlib.Omega.{arith}
use mathlib.Core.Path.{◌≡◌, refl, sym, ap, ap₂, ◌∙◌}
use mathlib.Core.List.{List, map, foldl}
use lib.IntN.{pos}
use lib.ListN.{length, take, get_or, length-map}
use lib.Seq.{slice, slice-cons, slice_empty, length-slice}
use lib.Ieee.{Float, nan, binary32, add, div, of_int}
use Rattle.floats.specs.Plain.{zero_f, plain_zero}
use Rattle.lists.specs.Results.{overlay}
use Rattle.lists.proofs.Fill.{listed_take}
use Rattle.lists.proofs.Tabulated.{length_tabulate, tabulate_at}
use Rattle.smooth.specs.Level.{clean, five_around, sum_of, mean_of, means, levels, level_at}

-- ---- five frames at once
module _ (c : List Float) (i : ℕ) (h : 2 ≤ i) (k : i + 2 < length c) where
  -- a sum so far, with the frames from j on and before i + 3 added to it
  abbrev onward : ℕ → Float → Float
  onward j sum = foldl (add binary32) sum (slice j (i + 3) c)

  from_to : (j n : ℕ) (sum : Float) → n ≡ j + 1 → j < i + 3 → onward n (add binary32 sum (get_or c j nan)) ≡ onward j sum
  from_to j n sum e l = rw (e, add-one, slice-cons j (i + 3) c nan l (omega arith))

  pub five : plain_zero (div binary32 (add binary32 (add binary32 (add binary32 (add binary32 (add binary32 zero_f (get_or c (i - 2) nan)) (get_or c (i - 1) nan)) (get_or c i nan)) (get_or c (i + 1) nan)) (get_or c (i + 2) nan)) (of_int binary32 (pos 5)))
      ≡ mean_of (five_around c i)
  five =
      let s1 = add binary32 zero_f (get_or c (i - 2) nan) in
      let s2 = add binary32 s1 (get_or c (i - 1) nan) in
      let s3 = add binary32 s2 (get_or c i nan) in
      let s4 = add binary32 s3 (get_or c (i + 1) nan) in
      let s5 = add binary32 s4 (get_or c (i + 2) nan) in
      let e : i + 3 ≡ min (i + 3) (length c) = omega arith in
      let n : length (slice (i - 2) (i + 3) c) ≡ 5 = length-slice (i - 2) (i + 3) c (omega arith) ∙ omega arith in
      let all : s5 ≡ sum_of (slice (i - 2) (i + 3) c) =
      sym (ap (foldl (add binary32) s5) (slice_empty (i + 3) c))
      ∙ from_to (i + 2) (i + 3) s4 (omega arith) (omega arith)
      ∙ from_to (i + 1) (i + 2) s3 (omega arith) (omega arith)
      ∙ from_to i (i + 1) s2 refl (omega arith)
      ∙ from_to (i - 1) i s1 (omega arith) (omega arith)
      ∙ from_to (i - 2) (i - 1) zero_f (omega arith) (omega arith) in
      ap₂ (λ (x : Float) (m : ℕ). plain_zero (div binary32 x (of_int binary32 (pos m)))) all (sym n) ∙ ap (λ (x : ℕ). mean_of (slice (i - 2) x c)) e

-- ---- the list of the means
pub length_means : (c : List Float) → length (means c) ≡ length c
unfolding means
length_means c = length_tabulate (λ i. mean_of (five_around c i)) (length c)

pub mean_at : (c : List Float) (i : ℕ) → i < length c → get_or (means c) i nan ≡ mean_of (five_around c i)
unfolding means
mean_at c i h = tabulate_at (λ i. mean_of (five_around c i)) (length c) i nan h

-- ---- the levels, one for each frame
pub length_levels : (db : List Float) → length (levels db) ≡ length db
unfolding levels
length_levels db = length_means (map clean db) ∙ length-map db clean

pub level_at_lem : (db : List Float) (i : ℕ) → i < length db → get_or (levels db) i nan ≡ level_at db i
unfolding levels level_at
level_at_lem db i h = mean_at (map clean db) i (rw (length-map db clean) h)

-- what stands at the front of a list after the frames are written there as they read
pub cleaned : (db old new : List Float) → new ≡ overlay (map clean db) old → take (length db) new ≡ map clean db
cleaned db old new e = listed_take (record { count = sym (length-map db clean); entries = e })
