-- DEMAND 3 OF THE CHAIN THAT A CALLER HAS, over nucleus records: a take times a whole number other than 0 is answered and left alike; in every call that finds a
-- region the boundaries keep their promises; recovery changes no given pitch; what is returned is in order; a refused call leaves all that was lent. `Demanded`
-- says each. Assumes nothing.
use Prim.Native.Nat.{ℕ, zero, suc}
use mathlib.Core.Path.{◌≡◌, refl, sym, ap, ◌∙◌}
use mathlib.Core.List.{List, [], ◌∷◌, ◌++◌}
use lib.ListN.{length, drop, length-map}
use Rattle.lists.specs.Results.{overlay}
use Rattle.nuclei.specs.Nuclei as found
use Rattle.chain.specs.Chain.{Take, as_lent}
use Rattle.chain.specs.Promises.{Demanded}
use Rattle.chain.proofs.Demand3.{refusal_scaled, demanded}
use Rattle.chain.proofs.Pitches.{pitches_admitted}
use Rattle.kiddwyr.specs.declared.Nucleus.{Nucleus}
use Rattle.kiddwyr.specs.Records.{record_of, records_of, frames_in, Lists, Left, written, refusal_of, chain_of, returned}
use Rattle.kiddwyr.proofs.Chained.{nothing_in_records}

-- the frames of nuclei, through their records
frames_past : (k : ℕ) (old : List Nucleus) → frames_in (drop k old) ≡ drop k (frames_in old)
frames_past zero old = refl
frames_past (suc k) [] = refl
frames_past (suc k) (m ∷ old) = frames_past k old

frames_over : (ns : List found.Nucleus) (k : ℕ) (old : List Nucleus) → frames_in (records_of ns ++ drop k old) ≡ found.frames_of ns ++ drop k (frames_in old)
frames_over [] k old = frames_past k old
frames_over (n ∷ ns) k old = ap (λ (fs : List ℕ). n.frame ∷ fs) (frames_over ns k old)

frames_back : (ns : List found.Nucleus) (old : List Nucleus) → frames_in (overlay (records_of ns) old) ≡ overlay (found.frames_of ns) (frames_in old)
unfolding overlay
frames_back ns old = frames_over ns (length (records_of ns)) old ∙ ap (λ (k : ℕ). found.frames_of ns ++ drop k (frames_in old)) (length-map ns record_of ∙ sym (length-map ns (λ (n : found.Nucleus). n.frame)))

pub chain_demanded : (l : Lists) (t : Take) (o : Left) → o ≡ chain_of t l → Demanded (λ (t : Take). chain_of t l) returned (as_lent t l) t o
unfolding chain_of
chain_demanded l =
    demanded written l _ _ _ _ (λ pitch. nothing_in_records pitch l) (λ (t : Take). refusal_of t l) (λ k t. refusal_scaled k t _ _ _ _ _ _)
    (λ m. (frames_back m.nuclei l.nuclei, frames_back m.extras l.extras, refl, refl)) (λ t. pitches_admitted t _ _ _ _ _ _)
