-- Unpitched peaks: they are speech by the level, have no pitch within 2 frames, and rise strictly; and what the library keeps of a list. Assumes nothing.
use Prim.Native.Nat.{ℕ, ◌<◌, min}
use native.Mathlib.Omega.{arith}
use mathlib.Core.Path.{◌≡◌, refl, ap}
use mathlib.Core.Bool.{Bool, true, false, cond, ◌&&◌, not}
use mathlib.Core.List.{List, [], ◌∷◌}
use lib.ListN.{length}
use lib.Dec.{leb, ltb}
use lib.Ieee.{Float, le}
use borrow.Author.Tests.{ltb-true, not-true}
use Rattle.std.specs.List.{filter as kept_by}
use Rattle.lists.specs.Results.{cons_if, filter}
use Rattle.lists.specs.By.{Each}
use Rattle.lists.specs.Sorted.{StrictlyRises}
use Rattle.lists.proofs.Tests.{and_cases}
use Rattle.lists.proofs.Entries.{each_map, each_filter}
use Rattle.lists.proofs.Members.{strict_from, strict_to, filter_rises}
use Rattle.lists.specs.Frames.{at}
use Rattle.smooth.specs.Extrema.{inside, local_extrema}
use Rattle.smooth.specs.declared.extrema.Extremum.TheVariants.{Max}
use Rattle.smooth.proofs.Stretches.{extrema_rise}
use Rattle.region.specs.declared.Bounds.{Bounds}
use Rattle.nuclei.specs.Peaks.{pitch_near, speech_by_level}
use Rattle.extra.specs.Unpitched.{vowel_like, unpitched, unpitched_peaks}

pub speech_inside : (s : List Float) (b : Bounds) (i : ℕ) → speech_by_level s b i ≡ true → i < b.end
unfolding speech_by_level
speech_inside s b i e = ltb-true i b.end (and_cases (leb b.start i) (ltb i b.end) (and_cases (inside b.start b.end i) (le b.threshold (at s i)) e).0).1

module _ (s pitch son : List Float) (b : Bounds) where
  -- a frame that passes the test has no pitch near
  pub unpitched_off : (i : ℕ) → unpitched s pitch son b i ≡ true → pitch_near pitch i ≡ false
  unfolding unpitched
  unpitched_off i e = not-true (pitch_near pitch i) (and_cases (not (pitch_near pitch i)) (vowel_like son i) (and_cases (speech_by_level s b i) (not (pitch_near pitch i) && vowel_like son i) e).1).0

  pub peaks_off : Each (λ i. pitch_near pitch i ≡ false) (unpitched_peaks s pitch son b)
  unfolding unpitched_peaks
  peaks_off = each_map (λ i. unpitched s pitch son b i ≡ true) (λ i. pitch_near pitch i ≡ false) unpitched_off (unpitched_peaks s pitch son b) (each_filter (unpitched s pitch son b) (local_extrema s b.start b.end Max))

  pub peaks_rise : StrictlyRises 0 (length s) (unpitched_peaks s pitch son b)
  unfolding unpitched_peaks
  peaks_rise =
      let ps = local_extrema s b.start b.end Max in
      filter_rises (unpitched s pitch son b) 0 (length s) ps (strict_from 0 b.start (length s) ps (omega arith) (strict_to b.start (min b.end (length s)) (length s) ps (omega arith) (extrema_rise s b.start b.end Max)))

-- the library's word for the entries that pass, and ours
pub filter_same : {A : Type 0} (t : A → Bool) (xs : List A) → kept_by t xs ≡ filter t xs
unfolding filter
filter_same t [] = refl
filter_same {A = A} t (x ∷ xs) = go (t x) (filter_same t xs)
  where
    go : (b : Bool) → kept_by t xs ≡ filter t xs → cond b (x ∷ kept_by t xs) (kept_by t xs) ≡ cons_if b x (filter t xs)
    go true e = ap (λ (ys : List A). x ∷ ys) e
    go false e = e
