-- The pitches that the chain leaves: recovery changes none of those given (`given_kept`), nothing is recovered without sound (`still_kept`), and what an admitted
-- take leads to is in the range of every entry but repair and chain (`left_range`). Assumes nothing.
use Prim.Native.Nat.{ℕ, ◌<◌}
use mathlib.Core.Path.{◌≡◌, ap, ◌∙◌}
use mathlib.Core.Bool.{true, not}
use mathlib.Core.List.{List}
use mathlib.Core.Logic.{inl, inr, ⊎_elim}
use lib.IntN.{ℤ}
use lib.ListN.{length, replicate}
use lib.Ieee.{Float, nan, eq, ne}
use Rattle.floats.specs.Plain.{zero_f}
use Rattle.lists.specs.Frames.{at}
use Rattle.lists.proofs.Keys.{Held}
use Rattle.lists.proofs.Parts.{get_d_any}
use Rattle.nsdf.specs.Period.{period_hz}
use Rattle.nsdf.proofs.Steady.{period_steady}
use Rattle.region.specs.Speech.{marks_of}
use Rattle.runs.specs.Runs.{voiced}
use Rattle.repair.specs.Repair.{Pitches, repaired}
use Rattle.repair.proofs.Promise.{repaired_pitches}
use Rattle.repair.proofs.Apart.{repaired_apart}
use Rattle.recover.specs.Estimates.{pitchless}
use Rattle.recover.proofs.Kept.{length_recovered, none_recovered}
use Rattle.recover.proofs.Islands.{recovered_apart}
use Rattle.admit.proofs.Admitted.{chain_admitted}
use Rattle.chain.specs.Chain.{Take, joined_track, pitches_of, refusal_for}
use Rattle.chain.specs.Promises.{PitchesKept}
use Rattle.chain.proofs.Marking.{joined_pitches}

-- an admitted take has pitches that the repair takes
pub pitches_admitted : (t : Take) (a b c d e f : ℕ) → Held t.pitch → refusal_for t a b c d e f ≡ 0 → Pitches 40 2000 t.pitch
pitches_admitted t a b c d e f h z = (chain_admitted t.db t.pitch t.voiced t.sonority t.vowel (length t.samples) t.settings a b c d e f h z).repairs

-- a frame of the track is voiced where it is not without a pitch
voiced_is : (p : List Float) (i : ℕ) → i < length p → voiced p i ≡ not (pitchless p i)
unfolding ne
voiced_is p i h = ap (λ (x : Float). not (eq x zero_f)) (get_d_any p i nan zero_f h)

module _ (t : Take) where
  -- recovered frames are 4 or more from given ones, so no run has both
  given_kept : (i : ℕ) → i < length t.pitch → voiced t.pitch i ≡ true → at (pitches_of t) i ≡ at (repaired t.pitch) i
  unfolding pitches_of
  given_kept i h v =
      let p = t.pitch in
      let s = marks_of t.db t.settings in
      let period = period_hz t.samples in
      repaired_apart p (joined_track t) (length_recovered period p s t.vowel)
      (λ i h. ⊎_elim inl (λ f. inr (λ j l a b. voiced_is p j l ∙ ap not (f j a b))) (recovered_apart period p s t.vowel i h)) i h v

  left_range : Pitches 40 2000 t.pitch → Pitches 20 4000 (pitches_of t)
  unfolding pitches_of
  left_range a = repaired_pitches (joined_track t) (joined_pitches t.pitch t.samples (marks_of t.db t.settings) t.vowel a)

  still_kept : (n : ℕ) (z : ℤ) → t.samples ≡ replicate n z → pitches_of t ≡ repaired t.pitch
  unfolding pitches_of
  still_kept n z e =
      ap repaired (none_recovered (period_hz t.samples) t.pitch (marks_of t.db t.settings) t.vowel (λ k. ap (λ (x : List ℤ). period_hz x k) e ∙ period_steady n z k))

  pub pitches_kept : (Held t.pitch → Pitches 40 2000 t.pitch) → PitchesKept t (pitches_of t)
  pitches_kept a = record { given = given_kept; still = still_kept; range = λ h. left_range (a h) }
