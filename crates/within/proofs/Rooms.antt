-- A list of records and the plain lists of at most 2,048 entries that stand for it: they are refused alike, and what is written to the plain ones fits the
-- records. Assumes nothing.
use Prim.Native.Nat.{ℕ, ◌≤◌, min}
use native.Mathlib.Omega.{arith}
use mathlib.Core.Path.{◌≡◌, refl, ap, subst}
use mathlib.Core.Bool.{Bool, true, false}
use mathlib.Core.List.{List, [], ◌++◌, append_assoc}
use borrow.Author.Tests.{leb-true, leb-false}
use lib.Dec.{leb}
use lib.ListN.{length, take, drop, length-append, length-take}
use lib.Ieee.{Float}
use lib.Seq.{take-append_seam}
use Rattle.lists.specs.Results.{overlay, Listed, Front}
use Rattle.lists.proofs.Tests.{and_cases}
use Rattle.lists.proofs.Fill.{listed_fits}
use Rattle.nuclei.specs.Nuclei.{Nucleus, frames_of, strengths_of}
use Rattle.region.specs.declared.Settings.{Settings}
use Rattle.extra.specs.Extra.{extras_of, edges_of}
use Rattle.admit.specs.Values.{all_of}
use Rattle.admit.specs.First.{passes, first_failed}
use Rattle.admit.specs.Refusals.{tested, refusal, nuclei_refusal, extras_refusal, chain_refusal}
use Rattle.admit.proofs.First.{after_first}
use Rattle.entries.specs.Stages.{if_admitted, nuclei_entry, extras_entry, edges_entry}
use Rattle.nuclei.specs.Nuclei.{nuclei_of}
use Rattle.within.specs.Within.{Laid}

-- ---- room
-- the first k entries of a plain list
pub cut_long : {A : Type 0} (k : ℕ) (l : List A) (room : ℕ) → k ≡ min room 2048 → length l ≡ 2048 → k ≡ length (take k l)
cut_long k l room e h = omega (arith, length-take k l, e, h)

pub cut_room : {A : Type 0} (k : ℕ) (l : List A) (room : ℕ) → k ≡ min room 2048 → length l ≡ 2048 → length (take k l) ≡ min room 2048
cut_room k l room e h = omega (arith, cut_long k l room e h, e)

-- a track of at most 2,048 frames
enough : (n a room : ℕ) → n ≤ 2048 → a ≡ min room 2048 → leb n a ≡ leb n room
enough n a room h e = go (leb n a) (leb n room) refl refl
  where
    go : (s t : Bool) → leb n a ≡ s → leb n room ≡ t → s ≡ t
    go true true p q = refl
    go false false p q = refl
    go true false p q = absurd (omega (arith, leb-true n a p, leb-false n room q))
    go false true p q = absurd (omega (arith, leb-false n a p, leb-true n room q))

module _ (db pitch : List Float) (start end : ℕ) (p : Settings) (a b room : ℕ) (ea : a ≡ min room 2048) (eb : b ≡ min room 2048) where
  pub nuclei_room : nuclei_refusal db pitch start end p a b ≡ nuclei_refusal db pitch start end p room room
  unfolding nuclei_refusal refusal first_failed passes all_of tested
  nuclei_room = after_first _ _ _ (λ h.
      let n = leb-true (length db) 2048 (and_cases (leb (length db) 2048) _ h).0 in
      rw (enough (length db) a room n ea, enough (length db) b room n eb))

  pub nuclei_room_found : nuclei_entry db pitch start end p a b ≡ nuclei_entry db pitch start end p room room
  nuclei_room_found = ap (λ (number : ℕ). if_admitted number (nuclei_of db pitch start end p) []) nuclei_room

module _ (db pitch voiced sonority : List Float) (vowel : List ℕ) (samples : ℕ) (p : Settings) (a b room c d xroom edges bounds : ℕ) (ea : a ≡ min room 2048) (eb : b ≡ min room 2048) (ec : c ≡ min xroom 2048) (ed : d ≡ min xroom 2048) where
  pub chain_room : chain_refusal db pitch voiced sonority vowel samples p a b c d edges bounds ≡ chain_refusal db pitch voiced sonority vowel samples p room room xroom xroom edges bounds
  unfolding chain_refusal refusal first_failed passes all_of tested
  chain_room = after_first _ _ _ (λ h.
      let n = leb-true (length db) 2048 (and_cases (leb (length db) 2048) _ h).0 in
      rw (enough (length db) a room n ea, enough (length db) b room n eb, enough (length db) c xroom n ec, enough (length db) d xroom n ed))

module _ (db pitch sonority : List Float) (start end : ℕ) (nuclei : List ℕ) (p : Settings) (a b room edges : ℕ) (ea : a ≡ min room 2048) (eb : b ≡ min room 2048) where
  pub extras_room : extras_refusal db pitch sonority start end nuclei p a b edges ≡ extras_refusal db pitch sonority start end nuclei p room room edges
  unfolding extras_refusal refusal first_failed passes all_of tested
  extras_room = after_first _ _ _ (λ h.
      let n = leb-true (length db) 2048 (and_cases (leb (length db) 2048) _ h).0 in
      rw (enough (length db) a room n ea, enough (length db) b room n eb))

  pub extras_room_found : extras_entry db pitch sonority start end nuclei p a b edges ≡ extras_entry db pitch sonority start end nuclei p room room edges
  extras_room_found = ap (λ (number : ℕ). if_admitted number (extras_of db pitch sonority start end nuclei p) []) extras_room

  pub edges_room_found : edges_entry db pitch sonority start end nuclei p a b edges ≡ edges_entry db pitch sonority start end nuclei p room room edges
  edges_room_found = ap (λ (number : ℕ). if_admitted number (edges_of db pitch sonority start end nuclei p) []) extras_room

-- ---- what is written
-- a part that lists a result, at the front of the whole
front_more : {A : Type 0} {res old new : List A} {r : ℕ} (rest : List A) → Listed res old new r → Front res (new ++ rest) r
unfolding overlay
front_more {A} {res} {old} {new} {r} rest l =
    record {
      within = rw length-append (omega (arith, listed_fits l));
      entries = rw (l.entries, l.count, append_assoc) (take-append_seam res (drop (length res) old ++ rest));
    }

pub part_laid : {ns ms : List Nucleus} {k room r : ℕ} {f₀ f : List ℕ} {s₀ s : List Float} → ns ≡ ms → k ≤ room → length f ≤ k → (f₁ : List ℕ) (s₁ : List Float) → Listed (frames_of ns) f₀ f r → Listed (strengths_of ns) s₀ s r → Laid ms (f ++ f₁) (s ++ s₁) room r
part_laid {ns} {ms} {k} {room} {r} {f₀} {f} {s₀} {s} e h l f₁ s₁ a b =
    subst (λ (ns : List Nucleus). Laid ns (f ++ f₁) (s ++ s₁) room r) e (record { framed = front_more f₁ a; strong = front_more s₁ b; fits = omega (arith, listed_fits a) })
