-- What a found region has: five frames at least, none past the track, and speech at both ends; speech is finite and above the threshold. Assumes nothing.
use Rattle.std.proofs.Common.{◌≡◌, ℕ, ◌+◌, ◌-◌, ◌<◌, ◌≤◌, Bool, true, false, cond, leb, List, [], ◌∷◌, length, get_or, Some, None, sym, refl, ap, subst, arith, le-leb, leb-true}
use borrow.Author.Tests.{lt-leb}
use lib.Ieee.{Float, nan, lt}
use lib.Ieee.Scale.{finite}
use Rattle.lists.specs.By.{Each}
use Rattle.lists.specs.Sorted.{StrictlyRises}
use Rattle.lists.proofs.Tests.{and_cases}
use Rattle.lists.proofs.Entries.{each_at}
use Rattle.lists.proofs.Members.{each_keep, keep_rises}
use Rattle.region.specs.declared.Region.{Region}
use Rattle.region.specs.Speech.{speech, speech_at, speech_frames, last_of, spanning, region_in}

-- ---- speech
pub speech_finite : (t d : Float) → speech t d ≡ true → finite d ≡ true
speech_finite t d e = (and_cases (finite d) (lt t d) e).0

pub speech_above : (t d : Float) → speech t d ≡ true → lt t d ≡ true
speech_above t d e = (and_cases (finite d) (lt t d) e).1

-- ---- the first and the last of some frames
last_has : (P : ℕ → Type 0) (z : ℕ) (l : List ℕ) → 0 < length l → Each P l → P (last_of z l)
last_has P z [] h e = absurd (omega arith)
last_has P z (x ∷ []) h e = e.0
last_has P z (x ∷ y ∷ l) h e = last_has P x (y ∷ l) (omega arith) e.1

spread_from : (lo hi z : ℕ) (l : List ℕ) → StrictlyRises lo hi l → 0 < length l → lo + length l ≤ last_of z l + 1
spread_from lo hi z [] s h = absurd (omega arith)
spread_from lo hi z (x ∷ []) s h = omega (arith, s.0)
spread_from lo hi z (x ∷ y ∷ l) s h = omega (arith, s.0, spread_from (x + 1) hi x (y ∷ l) s.2 (omega arith))

spread : (lo hi : ℕ) (l : List ℕ) → StrictlyRises lo hi l → 0 < length l → get_or l 0 0 + length l ≤ last_of 0 l + 1
spread lo hi [] s h = absurd (omega arith)
spread lo hi (x ∷ []) s h = omega arith
spread lo hi (x ∷ y ∷ l) s h = omega (arith, spread_from (x + 1) hi x (y ∷ l) s.2 (omega arith))

-- ---- the region of a list of frames
pub few : (l : List ℕ) → length l < 5 → None ≡ region_in l
unfolding region_in
few l h = rw (lt-leb 5 (length l) h)

pub many : (l : List ℕ) → 5 ≤ length l → Some (spanning (get_or l 0 0) (last_of 0 l + 1)) ≡ region_in l
unfolding region_in
many l h = rw (le-leb 5 (length l) h)

pub record Found (l : List ℕ) (a b : ℕ) : Type 0 where
  pub enough : 5 ≤ length l
  pub first : a ≡ get_or l 0 0
  pub end : b ≡ last_of 0 l + 1

found : (l : List ℕ) (a b : ℕ) → region_in l ≡ Some (spanning a b) → Found l a b
unfolding region_in
found l a b e = go (leb 5 (length l)) refl e
  where
    go : (t : Bool) → leb 5 (length l) ≡ t → cond t (Some (spanning (get_or l 0 0) (last_of 0 l + 1))) None ≡ Some (spanning a b) → Found l a b
    go true q p =
        let s : spanning a b ≡ spanning (get_or l 0 0) (last_of 0 l + 1) = cc in
        record { enough = leb-true 5 (length l) q; first = ap (λ (r : Region). r.start) s; end = ap (λ (r : Region). r.end) s }
    go false q p = absurd cc

-- ---- the region of a track
module _ (t : Float) (db : List Float) where
  frames_have : Each (λ i. (0 ≤ i) × (i < 0 + length db) × (speech_at t db i ≡ true)) (speech_frames t db)
  frames_have = each_keep (speech_at t db) 0 (length db)

  -- the last speech frame of some
  pub last_within : 0 < length (speech_frames t db) → last_of 0 (speech_frames t db) < length db
  last_within h = omega (arith, (last_has _ 0 (speech_frames t db) h frames_have).1)

  module _ (a b : ℕ) (e : region_in (speech_frames t db) ≡ Some (spanning a b)) where
    some : 0 < length (speech_frames t db)
    some = omega (arith, (found (speech_frames t db) a b e).enough)

    pub region_size : a + 5 ≤ b
    region_size =
        omega (arith, found (speech_frames t db) a b e, spread 0 (length db) (speech_frames t db) (keep_rises (speech_at t db) (length db) 0 (length db) (omega arith)) some)

    pub region_within : b ≤ length db
    region_within = omega (arith, found (speech_frames t db) a b e, last_within some)

    pub region_first : speech t (get_or db a nan) ≡ true
    region_first = subst (λ (i : ℕ). speech_at t db i ≡ true) (sym (found (speech_frames t db) a b e).first) (each_at _ (speech_frames t db) 0 frames_have 0 some).2

    pub region_last : speech t (get_or db (b - 1) nan) ≡ true
    region_last =
        let p : last_of 0 (speech_frames t db) ≡ b - 1 = omega (arith, found (speech_frames t db) a b e) in
        subst (λ (i : ℕ). speech_at t db i ≡ true) p (last_has _ 0 (speech_frames t db) some frames_have).2
