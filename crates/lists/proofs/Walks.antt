-- The first frame that passes a test, the last one, whether one of a stretch does, and whether all do: what each says, and for the first and the last the
-- laws of the loop that looks for it. Assumes nothing.
use Prim.Native.Nat.{ℕ, zero, suc, ◌+◌, ◌-◌, ◌≤◌, ◌<◌}
use native.Mathlib.Nat.{eq-or-lt_of_le}
use native.Mathlib.Omega.{arith}
use mathlib.Core.Path.{◌≡◌, refl, sym, subst}
use mathlib.Core.Bool.{Bool, true, false, cond}
use mathlib.Core.Logic.{⊎_elim}
use borrow.Author.Tests.{ltb-true, ltb-false}
use lib.Dec.{ltb}
use Rattle.lists.specs.Frames.{some_frame, all_frames, first_frame, last_frame}
use Rattle.lists.proofs.Tests.{or_left, or_right, and_cases}

-- ---- frames of which none passes, from a to before b
abbrev pub NonePass : (ℕ → Bool) → ℕ → ℕ → Type 0
NonePass t a b = (j : ℕ) → a ≤ j → j < b → t j ≡ false

module _ (t : ℕ → Bool) where
  pub none_yet : (i : ℕ) → NonePass t i i
  none_yet i j p q = absurd (omega arith)

  pub none_join : {a b c : ℕ} → NonePass t a b → NonePass t b c → NonePass t a c
  none_join {a} {b} f g j p q = go (ltb j b) refl
    where
      go : (x : Bool) → ltb j b ≡ x → t j ≡ false
      go true e = f j p (ltb-true j b e)
      go false e = g j (ltb-false j b e) q

  none_one : (i : ℕ) → t i ≡ false → NonePass t i (i + 1)
  none_one i e j p q = let d : j ≡ i = omega arith in rw d e

  pub none_more : {a b : ℕ} → NonePass t a b → t b ≡ false → NonePass t a (b + 1)
  none_more {b = b} f e = none_join f (none_one b e)

-- ---- the first that passes
pub record First (t : ℕ → Bool) (i k r : ℕ) : Type 0 where
  pub low : i ≤ r
  pub high : r ≤ i + k
  pub before : NonePass t i r
  pub here : r < i + k → t r ≡ true

pub first_is : (t : ℕ → Bool) (i k : ℕ) → First t i k (first_frame t i k)
unfolding first_frame
first_is t i zero = record { low = omega arith; high = omega arith; before = none_yet t i; here = λ h. absurd (omega arith) }
first_is t i (suc k) = go (t i) refl (first_is t (i + 1) k)
  where
    go : (b : Bool) → t i ≡ b → First t (i + 1) k (first_frame t (i + 1) k) → First t i (suc k) (cond b i (first_frame t (i + 1) k))
    go true e f = record { low = omega arith; high = omega arith; before = none_yet t i; here = λ h. e }
    go false e f = record { low = omega (arith, f.low); high = omega (arith, f.high); before = none_join t (none_one t i e) f.before; here = λ h. f.here (omega arith) }

pub first_only : (t : ℕ → Bool) (i k r : ℕ) → First t i k r → r ≡ first_frame t i k
unfolding first_frame
first_only t i zero r f = omega (arith, f.low, f.high)
first_only t i (suc k) r f =
    ⊎_elim
    (λ e. let h : t i ≡ true = rw e (f.here (omega arith)) in rw h (sym e))
    (λ l. rw (f.before i (omega arith) l) (first_only t (i + 1) k r (record { low = omega arith; high = omega (arith, f.high); before = λ j p q. f.before j (omega arith) q; here = λ h. f.here (omega arith) })))
    (eq-or-lt_of_le f.low)

module _ (t : ℕ → Bool) (a b : ℕ) where
  pub record Seeking (i : ℕ) : Type 0 where
    pub low : a ≤ i
    pub high : i ≤ b
    pub before : NonePass t a i

  pub seek_start : a ≤ b → Seeking a
  seek_start h = record { low = omega arith; high = h; before = none_yet t a }

  module _ {i : ℕ} (c : Seeking i) where
    pub seek_on : i < b → t i ≡ false → Seeking (i + 1)
    seek_on h e = record { low = omega (arith, c.low); high = omega arith; before = none_more t c.before e }

    pub seek_found : (i < b → t i ≡ true) → i ≡ first_frame t a (b - a)
    seek_found f = first_only t a (b - a) i (record { low = c.low; high = omega (arith, c.low, c.high); before = c.before; here = λ h. f (omega (arith, h, c.low)) })

    pub seek_stop : t i ≡ true → i ≡ first_frame t a (b - a)
    seek_stop e = seek_found (λ h. e)

    pub seek_end : b ≤ i → i ≡ first_frame t a (b - a)
    seek_end l = seek_found (λ h. absurd (omega arith))

    -- on to what a search from here finds
    pub seek_past : (k : ℕ) {j : ℕ} → j ≤ b → j ≡ first_frame t i k → Seeking j
    seek_past k h e = let f = first_is t i k in record { low = omega (arith, c.low, f.low); high = h; before = none_join t c.before (rw e f.before) }

-- ---- the last that passes, up to frame i
pub record SeekingBack (t : ℕ → Bool) (i l : ℕ) : Type 0 where
  pub high : l ≤ i
  pub after : NonePass t (l + 1) (i + 1)

pub back_found : (t : ℕ → Bool) (i : ℕ) {l : ℕ} → SeekingBack t i l → (0 < l → t l ≡ true) → l ≡ last_frame t i
unfolding last_frame
back_found t zero c f = omega (arith, c.high)
back_found t (suc i) c f =
    ⊎_elim
    (λ e. let h : t (suc i) ≡ true = rw e at (f (omega arith)) in rw h e)
    (λ m. rw (c.after (suc i) (omega arith) (omega arith)) (back_found t i (record { high = omega arith; after = λ j p q. c.after j p (omega arith) }) f))
    (eq-or-lt_of_le c.high)

pub back_is : (t : ℕ → Bool) (i : ℕ) → SeekingBack t i (last_frame t i)
unfolding last_frame
back_is t zero = record { high = omega arith; after = none_yet t (0 + 1) }
back_is t (suc i) = go (t (suc i)) refl (back_is t i)
  where
    go : (b : Bool) → t (suc i) ≡ b → SeekingBack t i (last_frame t i) → SeekingBack t (suc i) (cond b (suc i) (last_frame t i))
    go true e c = record { high = omega arith; after = none_yet t (suc i + 1) }
    go false e c = record { high = omega (arith, c.high); after = let d : i + 1 ≡ suc i = omega arith in none_more t (rw d at c.after) e }

module _ (t : ℕ → Bool) (i : ℕ) where
  pub back_start : SeekingBack t i i
  back_start = record { high = omega arith; after = none_yet t (i + 1) }

  module _ {l : ℕ} (c : SeekingBack t i l) where
    pub back_stop : t l ≡ true → l ≡ last_frame t i
    back_stop e = back_found t i c (λ h. e)

    pub back_end : l ≤ 0 → l ≡ last_frame t i
    back_end m = back_found t i c (λ h. absurd (omega arith))

-- ---- whether one passes
pub some_at : (t : ℕ → Bool) (a k j : ℕ) → a ≤ j → j < a + k → t j ≡ true → some_frame t a k ≡ true
unfolding some_frame
some_at t a zero j h i e = absurd (omega arith)
some_at t a (suc k) j h i e =
    ⊎_elim
    (λ q. or_left (t a) (some_frame t (a + 1) k) (subst (λ (z : ℕ). t z ≡ true) (sym q) e))
    (λ l. or_right (t a) (some_frame t (a + 1) k) (some_at t (a + 1) k j (omega arith) (omega arith) e))
    (eq-or-lt_of_le h)

-- ---- whether all pass
pub all_at : (t : ℕ → Bool) (a k j : ℕ) → all_frames t a k ≡ true → a ≤ j → j < a + k → t j ≡ true
unfolding all_frames
all_at t a zero j e h i = absurd (omega arith)
all_at t a (suc k) j e h i =
    let b = and_cases (t a) (all_frames t (a + 1) k) e in
    ⊎_elim (λ q. rw (← q) b.0) (λ l. all_at t (a + 1) k j b.1 (omega arith) (omega arith)) (eq-or-lt_of_le h)
