-- The parts' results together are the whole's, and what a part asks for holds of the results before it. Assumes nothing.
use Prim.Native.Nat.{ℕ, ◌<◌, ◌≤◌}
use native.Mathlib.Omega.{arith}
use mathlib.Core.Path.{◌≡◌, sym}
use mathlib.Core.List.{List, []}
use lib.ListN.{length, take}
use lib.Ieee.{Float}
use Rattle.lists.specs.Results.{overlay, Listed}
use Rattle.lists.specs.By.{Each}
use Rattle.lists.proofs.Fill.{listed_take, fill_start, fill_end}
use Rattle.lists.proofs.Members.{strict_below}
use Rattle.smooth.specs.Level.{levels}
use Rattle.smooth.specs.declared.extrema.Extremum.TheVariants.{Max}
use Rattle.smooth.specs.Extrema.{local_extrema}
use Rattle.smooth.proofs.Averages.{length_levels}
use Rattle.smooth.proofs.Stretches.{extrema_fit}
use Rattle.region.specs.declared.Settings.{Settings}
use Rattle.runs.specs.declared.voiced.Span.{Span}
use Rattle.region.specs.declared.Bounds.{Bounds}
use Rattle.nuclei.specs.Peaks.{voiced_peaks}
use Rattle.nuclei.specs.Nuclei.{nucleus_frames}
use Rattle.nuclei.proofs.Promises.{nuclei_rise, nuclei_few}
use Rattle.nuclei.proofs.Steps.{onto_few}

-- ---- candidates
pub peaks_few : (s pitch : List Float) (b : Bounds) (rs : List Span) → length (voiced_peaks s pitch b rs) ≤ length s
unfolding voiced_peaks
peaks_few s pitch b rs = omega (arith, onto_few s pitch b rs (local_extrema s b.start b.end Max), extrema_fit s b.start b.end Max)

-- ---- what is kept of them
module _ (s pitch : List Float) (rs syllables : List Span) (b : Bounds) (p : Settings) {kept : List ℕ} (e : kept ≡ nucleus_frames s pitch rs syllables b p) where
  pub kept_few : length kept ≤ length s
  kept_few = rw e (nuclei_few s pitch rs syllables b p)

  pub kept_below : Each (λ x. x < length s) kept
  kept_below =
      let fs = nucleus_frames s pitch rs syllables b p in
      rw e (strict_below 0 (length s) fs (nuclei_rise s pitch rs syllables b p))

-- ---- the level
module _ (db old : List Float) {new : List Float} (e : new ≡ overlay (levels db) old) where
  pub level_take : take (length db) new ≡ levels db
  level_take = listed_take (record { count = sym (length_levels db); entries = e })

-- ---- no nuclei
pub listed_nothing {ℓ} : {A : Type ℓ} (old : List A) → Listed [] old old 0
listed_nothing old = fill_end (fill_start [] old (omega arith))
