-- Nuclei that are given as records, of which the first 2,049 frames are read: the entries find the same as by all of them, since more than 2,048 are refused.
-- Assumes nothing.
use Prim.Native.Nat.{ℕ, zero, suc, ◌<◌, min}
use native.Mathlib.Omega.{arith}
use mathlib.Core.Path.{◌≡◌, refl, sym, ap, ◌∙◌}
use mathlib.Core.Bool.{Bool, true, false, ◌&&◌}
use mathlib.Core.List.{List, [], ◌∷◌}
use borrow.Author.Tests.{leb-true, leb-false, lt-leb}
use lib.Dec.{leb}
use lib.ListN.{length, take, length-take}
use lib.Seq.{take_all}
use lib.Ieee.{Float}
use Rattle.region.specs.declared.Settings.{Settings}
use Rattle.boundaries.specs.Boundaries.{boundaries_of}
use Rattle.extra.specs.Extra.{extras_of, edges_of}
use Rattle.admit.specs.Refusals.{tested, refusal, extras_refusal, boundaries_with_refusal}
use Rattle.admit.proofs.First.{passed_in_turn, stop}
use Rattle.entries.specs.Stages.{if_admitted, extras_entry, edges_entry}
use Rattle.kiddwyr.specs.declared.Nucleus.{Nucleus}
use Rattle.kiddwyr.specs.Records.{frames_in}
use Rattle.kiddwyr.proofs.Filling.{frames_to}

-- ---- the frames that are taken
pub frames_taken : (ns : List Nucleus) (k count : ℕ) → count ≡ min (length ns) k → frames_to ns count ≡ take k (frames_in ns)
frames_taken [] zero zero e = refl
frames_taken [] (suc k) zero e = refl
frames_taken [] k (suc count) e = absurd (omega (arith, e))
frames_taken (n ∷ ns) zero zero e = refl
frames_taken (n ∷ ns) zero (suc count) e = absurd (omega (arith, e))
frames_taken (n ∷ ns) (suc k) zero e = absurd (omega (arith, e))
frames_taken (n ∷ ns) (suc k) (suc count) e = ap (λ (t : List ℕ). n.frame ∷ t) (frames_taken ns k count (omega (arith, e)))

-- ---- as many as are refused
not_short : (b : Bool) (n : ℕ) → 2048 < n → (b && leb n 2048) ≡ false
not_short b n h = rw (lt-leb n 2048 h) (go b)
  where
    go : (b : Bool) → (b && false) ≡ false
    go true = refl
    go false = refl

refused : {A : Type 0} {number : ℕ} (found : List A) → number ≡ 1 → if_admitted number found [] ≡ []
unfolding if_admitted
refused found e = rw e

-- by the first 2,049 frames as by all of them
module _ (number : List ℕ → ℕ) (many : (ns : List ℕ) → 2048 < length ns → number ns ≡ 1) (ns : List ℕ) where
  abbrev cut : List ℕ
  cut = take 2049 ns

  cut_many : 2048 < length ns → 2048 < length cut
  cut_many h = omega (arith, length-take 2049 ns)

  same_number : number cut ≡ number ns
  same_number = go (leb (length ns) 2048) refl
    where
      go : (b : Bool) → leb (length ns) 2048 ≡ b → number cut ≡ number ns
      go true e = ap number (take_all 2049 ns (omega (arith, leb-true (length ns) 2048 e)))
      go false e = many cut (cut_many (leb-false (length ns) 2048 e)) ∙ sym (many ns (leb-false (length ns) 2048 e))

  same_found : {A : Type 0} (found : List ℕ → List A) → if_admitted (number cut) (found cut) [] ≡ if_admitted (number ns) (found ns) []
  same_found {A} found = go (leb (length ns) 2048) refl
    where
      go : (b : Bool) → leb (length ns) 2048 ≡ b → if_admitted (number cut) (found cut) [] ≡ if_admitted (number ns) (found ns) []
      go true e = ap (λ (l : List ℕ). if_admitted (number l) (found l) []) (take_all 2049 ns (omega (arith, leb-true (length ns) 2048 e)))
      go false e = refused (found cut) (many cut (cut_many (leb-false (length ns) 2048 e))) ∙ sym (refused (found ns) (many ns (leb-false (length ns) 2048 e)))

module _ (db pitch sonority : List Float) (start end : ℕ) (p : Settings) (frames strengths edges : ℕ) where
  abbrev extras_by : List ℕ → ℕ
  extras_by ns = extras_refusal db pitch sonority start end ns p frames strengths edges

  many_extras : (ns : List ℕ) → 2048 < length ns → extras_refusal db pitch sonority start end ns p frames strengths edges ≡ 1
  unfolding extras_refusal refusal tested passed_in_turn
  many_extras ns h = sym (stop 1 _ _ (not_short (leb (length db) 2048 && leb (length pitch) 2048 && leb (length sonority) 2048) (length ns) h))

  module _ {given : List ℕ} (ns : List ℕ) (e : given ≡ take 2049 ns) where
    pub extras_given : extras_by given ≡ extras_by ns
    extras_given = ap extras_by e ∙ same_number extras_by many_extras ns

    pub extras_given_found : extras_entry db pitch sonority start end given p frames strengths edges ≡ extras_entry db pitch sonority start end ns p frames strengths edges
    extras_given_found = ap (λ (l : List ℕ). extras_entry db pitch sonority start end l p frames strengths edges) e ∙ same_found extras_by many_extras ns (λ l. extras_of db pitch sonority start end l p)

    pub edges_given_found : edges_entry db pitch sonority start end given p frames strengths edges ≡ edges_entry db pitch sonority start end ns p frames strengths edges
    edges_given_found = ap (λ (l : List ℕ). edges_entry db pitch sonority start end l p frames strengths edges) e ∙ same_found extras_by many_extras ns (λ l. edges_of db pitch sonority start end l p)

module _ (db pitch voiced : List Float) (start end : ℕ) (p : Settings) (bounds : ℕ) where
  abbrev with_by : List ℕ → ℕ
  with_by ns = boundaries_with_refusal db pitch voiced start end ns p bounds

  abbrev with_found : List ℕ → List ℕ
  with_found ns = if_admitted (with_by ns) (boundaries_of db pitch voiced start end ns p) []

  many_with : (ns : List ℕ) → 2048 < length ns → boundaries_with_refusal db pitch voiced start end ns p bounds ≡ 1
  unfolding boundaries_with_refusal refusal tested passed_in_turn
  many_with ns h = sym (stop 1 _ _ (not_short (leb (length db) 2048 && leb (length pitch) 2048 && leb (length voiced) 2048) (length ns) h))

  module _ {given : List ℕ} (ns : List ℕ) (e : given ≡ take 2049 ns) where
    pub with_given : with_by given ≡ with_by ns
    with_given = ap with_by e ∙ same_number with_by many_with ns

    pub with_given_found : with_found given ≡ with_found ns
    with_given_found = ap with_found e ∙ same_found with_by many_with ns (λ l. boundaries_of db pitch voiced start end l p)
