-- What repair promises of a track whose pitches are from 40 to 2,000 Hz: as many frames (`length_repaired`, in Runs), the same voiced
-- frames (`repaired_voiced`, `repaired_frames`), and pitches from 20 to 4,000 Hz (`repaired_pitches`). Assumes nothing.
use Prim.Native.Nat.{ℕ, ◌+◌, ◌-◌, ◌≤◌, ◌<◌}
use native.Mathlib.Omega.{arith}
use mathlib.Core.Path.{◌≡◌, refl, sym, ap, ◌∙◌, subst, fun_ext}
use mathlib.Core.Bool.{Bool, true, false, not, cond}
use mathlib.Core.List.{List, [], ◌∷◌}
use mathlib.Core.Logic.{◌⊎◌, inl, inr, ⊎_elim}
use lib.Dec.{T, ltb}
use lib.ListN.{length, get_or-eq_default}
use lib.Ieee.{Float, nan, ne}
use lib.Ieee.Positive.{positive, between}
use borrow.Author.Tests.{ltb-true, ltb-false}
use Rattle.floats.specs.Plain.{zero_f}
use Rattle.floats.proofs.Zeros.{positive_not_zero}
use Rattle.lists.specs.Results.{keep}
use Rattle.lists.specs.Marks.{member}
use Rattle.lists.proofs.Entries.{each_at, at_each}
use Rattle.lists.proofs.Members.{each_keep, each_member}
use Rattle.powers.specs.Pitch.{hz, Between, PitchOrNone, octave_at}
use Rattle.powers.specs.declared.pitch.Octave.{Octave}
use Rattle.powers.specs.declared.pitch.Octave.TheVariants.{Keep, Halve, Double}
use Rattle.powers.proofs.Repaired.{halved_admitted, doubled_admitted}
use Rattle.runs.specs.declared.voiced.Span.{Span}
use Rattle.runs.specs.Runs.{voiced, voiced_frames, long_runs}
use Rattle.lists.specs.Frames.{at}
use Rattle.repair.specs.Repair.{Pitches, voiced_in, lower_middle, upper_middle, shifted, beside, repaired_in, repaired_among, repaired}
use Rattle.repair.proofs.Middles.{wider}
use Rattle.repair.proofs.Runs.{pitched_at, length_repaired, repaired_at}

-- a pitch is not 0
positive_voiced : (x : Float) → T (positive x) → ne x zero_f ≡ true
unfolding ne
positive_voiced x p = ap not (positive_not_zero x p)

shifted_pitch : (o : Octave) (f : Float) → Between 40 2000 f → Between 20 4000 (shifted o f)
shifted_pitch Keep f h = wider f h
shifted_pitch Halve f h = halved_admitted f h
shifted_pitch Double f h = doubled_admitted f h

-- whatever it stands beside
beside_pitch : (f : Float) (values : List Float) → Between 40 2000 f → Between 20 4000 (beside f values)
unfolding beside
beside_pitch f values h = shifted_pitch (octave_at f (lower_middle values) (upper_middle values)) f h

module _ (pitch : List Float) (a : Pitches 40 2000 pitch) where
  -- a frame keeps its pitch, or has one and gets one
  abbrev Kept : Float → ℕ → Type 0
  Kept v i = (v ≡ at pitch i) ⊎ ((voiced pitch i ≡ true) × Between 20 4000 v)

  kept_among : (rs : List Span) (i : ℕ) → i < length pitch → Kept (repaired_among pitch rs i) i
  unfolding repaired_among voiced_in
  kept_among [] i h = inl refl
  kept_among (r ∷ rs) i h = go (member (voiced_in pitch r) i) refl (kept_among rs i h)
    where
      go : (b : Bool) → member (voiced_in pitch r) i ≡ b → Kept (repaired_among pitch rs i) i → Kept (cond b (repaired_in pitch (voiced_in pitch r) i) (repaired_among pitch rs i)) i
      go true e k =
          let v = (each_member (λ j. (r.first ≤ j) × (j < r.first + (r.last + 1 - r.first)) × (voiced pitch j ≡ true)) (voiced_in pitch r) i (each_keep (voiced pitch) r.first (r.last + 1 - r.first)) e).2 in
          inr (v, beside_pitch (at pitch i) _ (pitched_at 40 2000 pitch a i h v))
      go false e k = k

  pub repaired_pitches : Pitches 20 4000 (repaired pitch)
  repaired_pitches = at_each (PitchOrNone 20 4000) (repaired pitch) nan each
    where
      each : (i : ℕ) → i < length (repaired pitch) → PitchOrNone 20 4000 (at (repaired pitch) i)
      each i h =
          let l : i < length pitch = omega (arith, length_repaired pitch) in
          let e = repaired_at pitch i l in
          ⊎_elim
          (λ k. ⊎_elim (λ n. inl (e ∙ k ∙ n)) (λ b. inr (subst (Between 20 4000) (sym (e ∙ k)) (wider (at pitch i) b))) (each_at (PitchOrNone 40 2000) pitch nan a i l))
          (λ k. inr (subst (Between 20 4000) (sym e) k.1))
          (kept_among (long_runs pitch) i l)

  -- a frame is voiced after if it was before; past the end there is none either way
  pub repaired_voiced : (i : ℕ) → voiced (repaired pitch) i ≡ voiced pitch i
  repaired_voiced i = go (ltb i (length pitch)) refl
    where
      go : (b : Bool) → ltb i (length pitch) ≡ b → voiced (repaired pitch) i ≡ voiced pitch i
      go true q =
          let l = ltb-true i (length pitch) q in
          let e = repaired_at pitch i l in
          ⊎_elim
          (λ k. ap (λ (p : Float). ne p zero_f) (e ∙ k))
          (λ k. ap (λ (p : Float). ne p zero_f) e ∙ positive_voiced (repaired_among pitch (long_runs pitch) i) (between (hz 20) (repaired_among pitch (long_runs pitch) i) (hz 4000) tt tt k.1.0 k.1.1) ∙ sym k.0)
          (kept_among (long_runs pitch) i l)
      go false q =
          let l = ltb-false i (length pitch) q in
          let m : length (repaired pitch) ≤ i = omega (arith, length_repaired pitch) in
          ap (λ (p : Float). ne p zero_f) (get_or-eq_default (repaired pitch) nan m ∙ sym (get_or-eq_default pitch nan l))

  pub repaired_frames : voiced_frames (repaired pitch) ≡ voiced_frames pitch
  unfolding voiced_frames
  repaired_frames = ap (keep (voiced (repaired pitch)) 0) (length_repaired pitch) ∙ ap (λ (t : ℕ → Bool). keep t 0 (length pitch)) (fun_ext repaired_voiced)
