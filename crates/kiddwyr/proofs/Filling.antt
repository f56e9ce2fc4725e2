-- A list of records that is filled from the front, after i turns: the first i frames with their strengths, and past them the entries that were lent. Then the
-- frames that are read off records, after i turns. Assumes nothing.
use Prim.Native.Nat.{ℕ, zero, suc, ◌<◌, ◌≤◌}
use native.Mathlib.Omega.{arith}
use mathlib.Core.Path.{◌≡◌, refl, sym, ap, ap₂, ◌∙◌}
use mathlib.Core.List.{List, [], ◌∷◌, ◌++◌, append_assoc}
use lib.ListN.{length, set, take, drop, get_or, length-append, length-drop}
use lib.Ieee.{Float, nan}
use lib.Seq.{drop-cons, set_at, take_all}
use Rattle.lists.specs.Results.{overlay}
use Rattle.kiddwyr.specs.declared.Nucleus.{Nucleus}
use Rattle.kiddwyr.specs.Records.{frames_in}
use Rattle.kiddwyr.specs.Copied.{paired}

-- what stands past the end of a list of records
abbrev pub blank : Nucleus
blank = record { frame = 0; strength = nan }

-- frame and strength number i, as a record
abbrev pub record_at : List ℕ → List Float → ℕ → Nucleus
record_at fs ss i = record { frame = get_or fs i 0; strength = get_or ss i nan }

-- ---- of any entries
module _ {A : Type 0} (ys new : List A) where
  long : length new ≤ length ys → length (overlay new ys) ≡ length ys
  unfolding overlay
  long l = length-append new (drop (length new) ys) ∙ omega (arith, length-drop (length new) ys)

  one : (v d : A) (i : ℕ) → length new ≡ i → i < length ys → set (overlay new ys) i v ≡ overlay (new ++ (v ∷ [])) ys
  unfolding overlay
  one v d i e l = rw e (rw (drop-cons ys i d l) (set_at new _ _ v i e ∙ rw more (sym (append_assoc new (v ∷ []) (drop (suc i) ys)))))
    where
      more : length (new ++ (v ∷ [])) ≡ suc i
      more = length-append new (v ∷ []) ∙ omega (arith, e)

-- ---- records from frames and strengths
-- the records after i turns
abbrev pub paired_to : List ℕ → List Float → ℕ → List Nucleus
paired_to fs ss i = paired (take i fs) (take i ss)

pairs_long : (fs : List ℕ) (ss : List Float) (i : ℕ) → i ≤ length fs → i ≤ length ss → length (paired_to fs ss i) ≡ i
pairs_long fs ss zero l k = refl
pairs_long [] ss (suc i) l k = absurd (omega arith)
pairs_long (f ∷ fs) [] (suc i) l k = absurd (omega arith)
pairs_long (f ∷ fs) (s ∷ ss) (suc i) l k = ap suc (pairs_long fs ss i (omega arith) (omega arith))

pairs_one : (fs : List ℕ) (ss : List Float) (i : ℕ) → i < length fs → i < length ss → paired_to fs ss i ++ (record_at fs ss i ∷ []) ≡ paired_to fs ss (suc i)
pairs_one [] ss i l k = absurd (omega arith)
pairs_one (f ∷ fs) [] i l k = absurd (omega arith)
pairs_one (f ∷ fs) (s ∷ ss) zero l k = refl
pairs_one (f ∷ fs) (s ∷ ss) (suc i) l k = ap (λ (t : List Nucleus). record { frame = f; strength = s } ∷ t) (pairs_one fs ss i (omega arith) (omega arith))

-- all of them
pub paired_all : (fs : List ℕ) (ss : List Float) → length ss ≡ length fs → paired_to fs ss (length fs) ≡ paired fs ss
paired_all fs ss e = ap₂ paired (take_all (length fs) fs (omega arith)) (take_all (length fs) ss (omega (arith, e)))

module _ (ys : List Nucleus) (fs : List ℕ) (ss : List Float) where
  pub none_over : overlay (paired_to fs ss 0) ys ≡ ys
  unfolding overlay
  none_over = refl

  pub long_over : (i : ℕ) → i ≤ length fs → i ≤ length ss → i ≤ length ys → length (overlay (paired_to fs ss i) ys) ≡ length ys
  long_over i l k h = long ys (paired_to fs ss i) (omega (arith, pairs_long fs ss i l k))

  pub one_over : (i : ℕ) → i < length fs → i < length ss → i < length ys → set (overlay (paired_to fs ss i) ys) i (record_at fs ss i) ≡ overlay (paired_to fs ss (suc i)) ys
  one_over i l k h = one ys (paired_to fs ss i) (record_at fs ss i) blank i (pairs_long fs ss i (omega arith) (omega arith)) h ∙ ap (λ (t : List Nucleus). overlay t ys) (pairs_one fs ss i l k)

-- ---- frames from records
-- the frames after i turns
abbrev pub frames_to : List Nucleus → ℕ → List ℕ
frames_to ns i = frames_in (take i ns)
