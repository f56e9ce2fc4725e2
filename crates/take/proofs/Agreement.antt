-- A file whose bytes agree: its refusal by the tests in turn, what holds of a take, and that of a longer file the head and the size tell the refusal. Assumes nothing.
use Prim.Native.Nat.{ℕ, ◌+◌, ◌*◌, ◌≤◌, ◌<◌}
use native.Mathlib.Omega.{arith}
use mathlib.Core.Path.{◌≡◌, refl}
use mathlib.Core.Bool.{Bool, true, false, cond, ◌&&◌}
use mathlib.Core.List.{List}
use lib.Dec.{leb, eqb}
use lib.ListN.{length, get_or, take, length-take}
use lib.Seq.{get_or-take}
use borrow.Author.Tests.{lt-leb, le-leb, leb-true, ne_eqb, eq-eqb, eqb-true}
use Rattle.lists.proofs.Tests.{and_cases, test_iff}
use Rattle.take.specs.Fields.{half_at, word_at}
use Rattle.take.specs.File.{frame_count, largest, agrees, refusal_by, file_refusal}

-- ---- the tests in turn
module _ (head : List ℕ) (size : ℕ) where
  pub no_head : length head < 7 → agrees head size ≡ false
  unfolding agrees
  no_head h = rw (lt-leb 7 (length head) h)

  pub no_version : 7 ≤ length head → (get_or head 4 0 ≡ 1 → ⊥) → agrees head size ≡ false
  unfolding agrees
  no_version h v = rw (le-leb 7 (length head) h, ne_eqb (get_or head 4 0) 1 v)

  pub no_length : 7 ≤ length head → get_or head 4 0 ≡ 1 → (word_at head 0 ≡ 15 + 17 * frame_count head → ⊥) → agrees head size ≡ false
  unfolding agrees
  no_length h v l = rw (le-leb 7 (length head) h, eq-eqb (get_or head 4 0) 1 v, ne_eqb (word_at head 0) (15 + 17 * frame_count head) l)

  pub then_size : 7 ≤ length head → get_or head 4 0 ≡ 1 → word_at head 0 ≡ 15 + 17 * frame_count head → agrees head size ≡ eqb size (4 + word_at head 0)
  unfolding agrees
  then_size h v l = rw (le-leb 7 (length head) h, eq-eqb (get_or head 4 0) 1 v, eq-eqb (word_at head 0) (15 + 17 * frame_count head) l)

  -- ---- what agreeing bytes say
  pub agreed_head : agrees head size ≡ true → 7 ≤ length head
  unfolding agrees
  agreed_head e = leb-true 7 (length head) (and_cases (leb 7 (length head)) (eqb (get_or head 4 0) 1 && (eqb (word_at head 0) (15 + 17 * frame_count head) && eqb size (4 + word_at head 0))) e).0

  pub agreed_size : agrees head size ≡ true → size ≡ 19 + 17 * frame_count head
  unfolding agrees
  agreed_size e =
      let v : Bool = eqb (get_or head 4 0) 1 in
      let l : Bool = eqb (word_at head 0) (15 + 17 * frame_count head) in
      let t : Bool = eqb size (4 + word_at head 0) in
      let a : (l ≡ true) × (t ≡ true) = and_cases l t (and_cases v (l && t) (and_cases (leb 7 (length head)) (v && (l && t)) e).1).1 in
      omega (arith, eqb-true (word_at head 0) (15 + 17 * frame_count head) a.0, eqb-true size (4 + word_at head 0) a.1)

  -- ---- the refusal
  pub refused_bytes : agrees head size ≡ false → refusal_by head size ≡ 11
  unfolding refusal_by
  refused_bytes e = rw e

  pub refused_frames : agrees head size ≡ true → 2048 < frame_count head → refusal_by head size ≡ 1
  unfolding refusal_by
  refused_frames e h = rw (e, lt-leb (frame_count head) 2048 h)

  pub refused_none : agrees head size ≡ true → frame_count head ≤ 2048 → refusal_by head size ≡ 0
  unfolding refusal_by
  refused_none e h = rw (e, le-leb (frame_count head) 2048 h)

  -- what holds of a take that is not refused
  pub admitted : refusal_by head size ≡ 0 → (frame_count head ≤ 2048) × (size ≡ 19 + 17 * frame_count head)
  unfolding refusal_by
  admitted e = agreeing (agrees head size) refl e
    where
      few : (b : Bool) → leb (frame_count head) 2048 ≡ b → agrees head size ≡ true → ◌≡◌ {A = ℕ} (cond b 0 1) 0 → (frame_count head ≤ 2048) × (size ≡ 19 + 17 * frame_count head)
      few true p a q = (leb-true (frame_count head) 2048 p, agreed_size a)
      few false p a q = absurd (omega (arith, q))

      agreeing : (b : Bool) → agrees head size ≡ b → ◌≡◌ {A = ℕ} (cond b (cond (leb (frame_count head) 2048) 0 1) 11) 0 → (frame_count head ≤ 2048) × (size ≡ 19 + 17 * frame_count head)
      agreeing true p q = few (leb (frame_count head) 2048) refl p q
      agreeing false p q = absurd (omega (arith, q))

  -- none of a size past the longest file that a head of two bytes of frames can name agrees
  pub refused_past : frame_count head ≤ 65535 → 1114114 < size → refusal_by head size ≡ 11
  refused_past f h = go (agrees head size) refl
    where
      go : (b : Bool) → agrees head size ≡ b → refusal_by head size ≡ 11
      go true e = absurd (omega (arith, agreed_size e))
      go false e = refused_bytes e

-- a file longer than every take is refused
pub refused_longer : (file : List ℕ) → largest < length file → file_refusal file ≡ 0 → ⊥
refused_longer file h e = let a = admitted file (length file) e in omega (arith, a.0, a.1)

-- ---- the first bytes of a file, 7 or more, and its size tell its refusal
module _ (most : ℕ) (file : List ℕ) (h : 7 ≤ most) where
  byte_kept : (k : ℕ) → k < most → get_or (take most file) k 0 ≡ get_or file k 0
  byte_kept k l = get_or-take most file k 0 l

  frames_kept : frame_count (take most file) ≡ frame_count file
  unfolding half_at
  frames_kept = rw (byte_kept 5 (omega arith), byte_kept 6 (omega arith))

  length_kept : word_at (take most file) 0 ≡ word_at file 0
  unfolding word_at
  length_kept = rw (byte_kept 0 (omega arith), byte_kept 1 (omega arith), byte_kept 2 (omega arith), byte_kept 3 (omega arith))

  head_kept : leb 7 (length (take most file)) ≡ leb 7 (length file)
  head_kept =
      test_iff _ _
      (λ e. le-leb 7 (length file) (omega (arith, leb-true 7 (length (take most file)) e, length-take most file)))
      (λ e. le-leb 7 (length (take most file)) (omega (arith, leb-true 7 (length file) e, length-take most file)))

  pub refusal_kept : refusal_by (take most file) (length file) ≡ file_refusal file
  unfolding refusal_by agrees
  refusal_kept = rw (head_kept, byte_kept 4 (omega arith), length_kept, frames_kept)
