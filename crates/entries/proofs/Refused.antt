-- After a refusal nothing lent has changed, for each entry, by what its contract says of the call. Assumes nothing.
use Prim.Native.Nat.{ℕ}
use mathlib.Core.Path.{◌≡◌, refl, sym, ap, ◌∙◌, subst}
use mathlib.Core.Bool.{false}
use mathlib.Core.List.{List, []}
use lib.IntN.{ℤ}
use lib.Ieee.{Float}
use Rattle.lists.specs.Results.{Listed, overlay}
use Rattle.region.specs.Speech.{region_of}
use Rattle.region.specs.declared.Settings.{Settings}
use Rattle.region.specs.declared.Region.{Region}
use Rattle.std.specs.Prelude.{Option, None, Some}
use Rattle.nuclei.specs.Nuclei.{frames_of, strengths_of}
use Rattle.admit.specs.Refusals.{region_refusal}
use Rattle.entries.specs.declared.stages.Answer.{Answer}
use Rattle.entries.specs.declared.stages.Spanned.{Spanned}
use Rattle.entries.specs.declared.stages.Counted.{Counted}
use Rattle.entries.specs.Stages.{if_admitted, spanned, Unchanged, MarksCall, RegionCall, RepairCall, RecoverCall, NucleiCall, ExtrasCall, BoundariesWithCall, BoundariesCall}
use Rattle.entries.proofs.Entering.{refused_is}

-- a lent list, whose entries are read off what a call finds
unchanged : {A B : Type 0} (f : List A → List B) (l : List A) {number n : ℕ} {old new : List B} {r : ℕ} → f [] ≡ [] → n ≡ number → (n ≡ 0 → ⊥) → Listed (f (if_admitted number l [])) old new r → Unchanged old new r
unfolding overlay
unchanged f l {old = old} {new} {r} none e n h =
    let g : Listed [] old new r = subst (λ (k : List _). Listed k old new r) (sym (ap f (refused_is l [] e n)) ∙ none) h in
    record { count = g.count; entries = g.entries }

-- the number that stands with a region
spanned_number : (number : ℕ) (g : Option Region) → (spanned number g).refusal ≡ number
unfolding spanned
spanned_number number None = refl
spanned_number number (Some r) = refl

module _ (db : List Float) (p : Settings) where
  pub marks_refused : (old new : List ℕ) (r : Answer) → MarksCall db p old new r → (r.refusal ≡ 0 → ⊥) → Unchanged old new r.count
  marks_refused old new r (e, h) n = unchanged (λ (l : List ℕ). l) _ refl e n h

  pub region_refused : (r : Spanned) → RegionCall db p r → (r.refusal ≡ 0 → ⊥) → (r.found ≡ false) × (r.start ≡ 0) × (r.end ≡ 0)
  unfolding spanned
  region_refused r e n =
      let number = ap (λ (a : Spanned). a.refusal) e ∙ spanned_number _ (if_admitted (region_refusal db p) (region_of db p) None) in
      let gone : r ≡ spanned (region_refusal db p) None = e ∙ ap (spanned (region_refusal db p)) (sym (refused_is _ _ number n)) in
      (ap (λ (a : Spanned). a.found) gone, ap (λ (a : Spanned). a.start) gone, ap (λ (a : Spanned). a.end) gone)

pub repair_refused : (old new : List Float) (r : ℕ) → RepairCall old new r → (r ≡ 0 → ⊥) → new ≡ old
repair_refused old new r (e, h) n = h ∙ sym (refused_is _ _ e n)

pub recover_refused : (samples : List ℤ) (speech vowel : List ℕ) (old new : List Float) (r : ℕ) → RecoverCall samples speech vowel old new r → (r ≡ 0 → ⊥) → new ≡ old
recover_refused samples speech vowel old new r (e, h) n = h ∙ sym (refused_is _ _ e n)

module _ (db pitch : List Float) (start end : ℕ) (p : Settings) (old_frames new_frames : List ℕ) (old_strengths new_strengths : List Float) where
  pub nuclei_refused : (r : Answer) →
      NucleiCall db pitch start end p old_frames new_frames old_strengths new_strengths r → (r.refusal ≡ 0 → ⊥) →
      Unchanged old_frames new_frames r.count × Unchanged old_strengths new_strengths r.count
  nuclei_refused r (e, f, s) n = (unchanged frames_of _ refl e n f, unchanged strengths_of _ refl e n s)

  pub extras_refused : (sonority : List Float) (nuclei old_edges new_edges : List ℕ) (r : Counted) →
      ExtrasCall db pitch sonority start end nuclei p old_frames new_frames old_strengths new_strengths old_edges new_edges r → (r.refusal ≡ 0 → ⊥) →
      Unchanged old_frames new_frames r.extras × Unchanged old_strengths new_strengths r.extras × Unchanged old_edges new_edges r.edges
  extras_refused sonority nuclei old_edges new_edges r (e, f, s, g) n =
      (unchanged frames_of _ refl e n f, unchanged strengths_of _ refl e n s, unchanged (λ (l : List ℕ). l) _ refl e n g)

module _ (db pitch voiced : List Float) (start end : ℕ) (nuclei old new : List ℕ) (r : Answer) where
  pub boundaries_with_refused : (p : Settings) → BoundariesWithCall db pitch voiced start end nuclei p old new r → (r.refusal ≡ 0 → ⊥) → Unchanged old new r.count
  boundaries_with_refused p (e, h) n = unchanged (λ (l : List ℕ). l) _ refl e n h

  pub boundaries_refused : BoundariesCall db pitch voiced start end nuclei old new r → (r.refusal ≡ 0 → ⊥) → Unchanged old new r.count
  boundaries_refused (e, h) n = unchanged (λ (l : List ℕ). l) _ refl e n h
