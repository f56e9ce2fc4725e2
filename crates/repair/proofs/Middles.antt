-- The middle values of a run's pitches are read off their sorted places in the total order (`beside_places`). Assumes nothing.
use Prim.Native.Nat.{ℕ, ◌-◌, ◌/◌, ◌<◌}
use native.Mathlib.Omega.{arith}
use mathlib.Core.Path.{◌≡◌, refl, sym, ap, ap₂, ◌∙◌, subst}
use mathlib.Core.List.{List, [], ◌∷◌, map}
use lib.Dec.{T, leb}
use lib.ListN.{length, get_or, length-map, get_or-map}
use lib.Ieee.{Float, nan, binary32, fits, of_bits}
use lib.Ieee.Bits.{of_bits-fits}
use lib.Ieee.{le}
use Rattle.floats.specs.Total.{total_key, value_of, unplaced, not_after}
use Rattle.lists.specs.By.{Each, sort_by}
use Rattle.lists.specs.Sorted.{IsSorted, sorted}
use Rattle.lists.proofs.Entries.{each_map, each_at, each_of_map}
use Rattle.lists.proofs.Ordered.{each_sort, length_sort}
use Rattle.lists.proofs.Sorting.{sorted_only}
use Rattle.lists.proofs.Keys.{sorted_values}
use Rattle.powers.specs.Pitch.{hz, Between, octave_at}
use Rattle.powers.proofs.Ranges.{enclosed}
use Rattle.repair.specs.Repair.{shifted, beside}
use Rattle.repair.specs.Places.{PitchPlace}
use Rattle.repair.proofs.Inserting.{sorted_many}

-- a pitch for the repair is a pitch
pub wider : (f : Float) → Between 40 2000 f → Between 20 4000 f
unfolding le
wider f h = enclosed 20 4000 (hz 40) f (hz 2000) tt tt tt tt tt tt h.0 h.1

places_back : (ks : List ℕ) → Each PitchPlace ks → map total_key (map value_of ks) ≡ ks
places_back [] h = refl
places_back (k ∷ ks) h = ap₂ (λ (a : ℕ) (l : List ℕ). a ∷ l) h.0.0 (places_back ks h.1)

sorted_places : (ks : List ℕ) → Each PitchPlace ks → sort_by not_after (map value_of ks) ≡ map value_of (sorted ks)
sorted_places ks h =
    sym (sorted_values (map value_of ks) (each_of_map (λ x. T (fits binary32 x)) value_of ks (each_map PitchPlace (λ k. T (fits binary32 (value_of k))) (λ k p. of_bits-fits binary32 (unplaced k)) ks h)))
    ∙ ap (λ (l : List ℕ). map value_of (sorted l)) (places_back ks h)

-- the values at the sorted places
module _ (ks : List ℕ) (h : Each PitchPlace ks) where
  pub sorted_value : (i : ℕ) → get_or (sort_by not_after (map value_of ks)) i nan ≡ value_of (get_or (sorted ks) i 0)
  unfolding of_bits
  sorted_value i = ap (λ (r : List Float). get_or r i nan) (sorted_places ks h) ∙ get_or-map value_of (sorted ks) i 0

  pub sorted_pitched : (i : ℕ) → i < length ks → PitchPlace (get_or (sorted ks) i 0)
  sorted_pitched i l = each_at PitchPlace (sorted ks) 0 (each_sort leb PitchPlace ks h) i (subst (λ (n : ℕ). i < n) (sym (length_sort leb ks)) l)

pub middle_below : (m : ℕ) → 0 < m → ((m - 1) / 2 < m) × (m / 2 < m)
middle_below m h = (omega arith, omega arith)

-- ks in order
module _ (ks a : List ℕ) (h : Each PitchPlace ks) (s : IsSorted ks a) where
  sorted_at : (i : ℕ) → get_or (sorted ks) i 0 ≡ get_or a i 0
  sorted_at i = ap (λ (r : List ℕ). get_or r i 0) (sym (sorted_only s))

  at_place : (i : ℕ) → get_or (sort_by not_after (map value_of ks)) i nan ≡ value_of (get_or a i 0)
  at_place i = sorted_value ks h i ∙ ap value_of (sorted_at i)

  pub place_pitched : (i : ℕ) → i < length a → Between 40 2000 (value_of (get_or a i 0))
  place_pitched i l = subst (λ (k : ℕ). Between 40 2000 (value_of k)) (sorted_at i) (sorted_pitched ks h i (omega (arith, sorted_many s))).1

  pub beside_places : (f : Float) → beside f (map value_of ks) ≡ shifted (octave_at f (value_of (get_or a ((length a - 1) / 2) 0)) (value_of (get_or a (length a / 2) 0))) f
  unfolding beside
  beside_places f =
      let e : length (map value_of ks) ≡ length a = length-map ks value_of ∙ sym (sorted_many s) in
      ap₂ (λ (x y : Float). shifted (octave_at f x y) f)
      (ap (λ (n : ℕ). get_or (sort_by not_after (map value_of ks)) ((n - 1) / 2) nan) e ∙ at_place ((length a - 1) / 2))
      (ap (λ (n : ℕ). get_or (sort_by not_after (map value_of ks)) (n / 2) nan) e ∙ at_place (length a / 2))
