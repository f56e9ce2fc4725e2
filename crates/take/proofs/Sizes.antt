-- How long a listing is at most: 116 bytes a frame and 49 more. Assumes nothing.
use Prim.Native.Nat.{ℕ, zero, suc, ◌+◌, ◌*◌, ◌/◌, ◌%◌, ◌^◌, ◌≤◌, ◌<◌, zero-le}
use native.Mathlib.Omega.{arith}
use native.Mathlib.Nat.{pow-suc, mul-suc, le_trans}
use mathlib.Core.Bool.{Bool, true, false, cond}
use mathlib.Core.List.{List, [], ◌∷◌, ◌++◌, flat_map}
use lib.Dec.{ltb}
use Rattle.std.specs.Prelude.{Option, None, Some}
use Rattle.region.specs.declared.Region.{Region}
use lib.ListN.{length, get_or, length-append}
use lib.Ieee.{Float, nan}
use borrow.Author.Tests.{lt-ltb}
use Rattle.lists.specs.Results.{keep, cons_if}
use Rattle.take.specs.Text.{glyph, decimal_in, decimal}
use Rattle.take.specs.Listing.{Marks, pitch_word, nucleus_word, extra_word, edge_word, boundary_word, frame_line, mark_line, mark_lines, repitched, pitch_lines, region_line, listing, refused_word, refused_listing, largest_listing}
use Rattle.take.proofs.Numbers.{hex_length, tenth}

-- ---- digits
shorter : (b : Bool) (l : List ℕ) (d e k : ℕ) → length l ≤ k → length (cond b (d ∷ []) (l ++ (e ∷ []))) ≤ suc k
shorter true l d e k h = omega arith
shorter false l d e k h = omega (arith, length-append l (e ∷ []))

-- at most k places
places : (k n : ℕ) → length (decimal_in k n) ≤ k
unfolding decimal_in
places zero n = zero-le
places (suc k) n = shorter (ltb n 10) (decimal_in k (n / 10)) (glyph n) (glyph (n % 10)) k (places k (n / 10))

-- and no more than the number needs
needed : (k j n : ℕ) → n < 10 ^ suc j → length (decimal_in k n) ≤ suc j
unfolding decimal_in
needed zero j n h = zero-le
needed (suc k) zero n h = rw (lt-ltb n 10 h) (omega arith)
needed (suc k) (suc j) n h = shorter (ltb n 10) (decimal_in k (n / 10)) (glyph n) (glyph (n % 10)) (suc j) (needed k j (n / 10) (tenth n (10 ^ suc j) (rw (pow-suc 10 (suc j)) at h)))

-- ---- lines
frame_size : (w : List ℕ) (i : ℕ) → length (frame_line w i) ≤ length w + 12
frame_size w i = simp length-append (omega (arith, places 10 i))

mark_size : (w : List ℕ) (i d : ℕ) (x : Float) → length (decimal i) ≤ d → length (mark_line w i x) ≤ length w + (d + 11)
mark_size w i d x h = simp (length-append, hex_length) (omega arith)

region_size : (region : Option Region) → length (region_line region) ≤ 29
unfolding region_line
region_size None = omega arith
region_size (Some r) = simp length-append (omega (arith, places 10 r.start, places 10 r.end))

-- ---- lists of lines of at most b bytes
module _ (b : ℕ) where
  more : (s t : List ℕ) (k : ℕ) → length s ≤ b → length t ≤ b * k → length (s ++ t) ≤ b * suc k
  more s t k h g = omega (arith, length-append s t, mul-suc b k)

  texts_size : (f : ℕ → List ℕ) → ((i : ℕ) → length (f i) ≤ b) → (xs : List ℕ) → length (flat_map f xs) ≤ b * length xs
  unfolding flat_map
  texts_size f h [] = zero-le
  texts_size f h (x ∷ xs) = more (f x) (flat_map f xs) (length xs) (h x) (texts_size f h xs)

  marks_size : (w : List ℕ) → ((i : ℕ) (x : Float) → length (mark_line w i x) ≤ b) → (is : List ℕ) (xs : List Float) → length (mark_lines w is xs) ≤ b * length is
  unfolding mark_lines
  marks_size w h [] xs = zero-le
  marks_size w h (i ∷ is) [] = zero-le
  marks_size w h (i ∷ is) (x ∷ xs) = more (mark_line w i x) (mark_lines w is xs) (length is) (h i x) (marks_size w h is xs)

  kept_size : (f : ℕ → List ℕ) (t : ℕ → Bool) (i k : ℕ) → ((j : ℕ) → j < i + k → length (f j) ≤ b) → length (flat_map f (keep t i k)) ≤ b * k
  unfolding flat_map keep
  kept_size f t i zero h = zero-le
  kept_size f t i (suc k) h = go (t i) (kept_size f t (suc i) k (λ j l. h j (omega arith)))
    where
      go : (c : Bool) → length (flat_map f (keep t (suc i) k)) ≤ b * k → length (flat_map f (cons_if c i (keep t (suc i) k))) ≤ b * suc k
      go true l = more (f i) (flat_map f (keep t (suc i) k)) k (h i (omega arith)) l
      go false l = omega (arith, mul-suc b k)

pitches_size : (given left : List Float) → length left ≤ 2048 → length (pitch_lines given left) ≤ 20 * length left
unfolding pitch_lines
pitches_size given left h =
    kept_size 20 (λ (i : ℕ). mark_line pitch_word i (get_or left i nan)) (λ (i : ℕ). repitched (get_or given i nan) (get_or left i nan)) 0 (length left)
    (λ j l. mark_size pitch_word j 4 (get_or left j nan) (needed 10 3 j (omega arith)))

-- the marks of a take of n frames are no more than this
pub record Sized (n : ℕ) (m : Marks) : Type 0 where
  pub pitches : length m.left ≤ n
  pub nuclei : length m.frames ≤ n
  pub extras : length m.extra_frames ≤ n
  pub edges : length m.edges ≤ n
  pub boundaries : length m.boundaries ≤ n + 1

pub listing_size : (m : Marks) (n : ℕ) → n ≤ 2048 → Sized n m → length (listing m) ≤ 116 * n + 49
unfolding listing
listing_size m n h s =
    simp length-append
    (omega (
      arith,
      pitches_size m.given m.left (le_trans s.pitches h),
      region_size m.region,
      marks_size 28 nucleus_word (λ i x. mark_size nucleus_word i 10 x (places 10 i)) m.frames m.strengths,
      marks_size 26 extra_word (λ i x. mark_size extra_word i 10 x (places 10 i)) m.extra_frames m.extra_strengths,
      texts_size 22 (frame_line edge_word) (frame_size edge_word) m.edges,
      texts_size 20 (frame_line boundary_word) (frame_size boundary_word) m.boundaries,
    ))

-- so a list of fixed size holds every listing
pub listing_fits : (m : Marks) (n : ℕ) → n ≤ 2048 → Sized n m → length (listing m) ≤ largest_listing
listing_fits m n h s = omega (arith, listing_size m n h s)

pub refused_fits : (number : ℕ) → length (refused_listing number) ≤ 19
refused_fits number = frame_size refused_word number
