-- The total order: `not_after` is an order on the values of an `f32`, it goes by the numbers, -0.0 stands before +0.0 and a NaN last,
-- and a value is told by its place. Assumes nothing.
use mathlib.Core.Path.{◌≡◌, refl, sym, ap, ◌∙◌}
use mathlib.Core.Logic.{◌⊎◌, inl, inr}
use mathlib.Core.Bool.{Bool, true, false, not, cond, false≢true}
use Prim.Native.Nat.{ℕ, ◌+◌, ◌-◌, ◌*◌, ◌≤◌, ◌<◌}
use native.Mathlib.Nat.{le_refl, le_trans, le_of_lt, le_antisymm, zero-add}
use native.Mathlib.Omega.{arith}
use lib.Dec.{T, lit<, lit≤}
use borrow.Author.Tests.{le-leb, lt-leb, leb-true, leb-false, ltb-true}
use lib.IntN.{ℤ, pos}
use lib.Ieee.{Float, nan, inf, fin, binary32, up, down, lt, fits, is_nan, to_bits, of_bits}
use lib.Ieee.Scale.{finite}
use lib.Ieee.Bits.{of_bits-to_bits, to_bits-of_bits, to_bits-lt}
use Rattle.floats.specs.Total.{placed, total_key, unplaced, value_of, not_after}
use Rattle.floats.proofs.Less.{le_or_lt}
use Rattle.floats.proofs.Pattern.{pattern, in_units, finite_bits, pattern_lt, rise}

-- ---- a pattern's place and the pattern at a place
pub placed_high : (b : ℕ) → 2147483648 ≤ b → placed b ≡ 4294967295 - b
placed_high b h = ap (λ (t : Bool). cond t (4294967295 - b) (2147483648 + b)) (le-leb 2147483648 b h)

pub placed_low : (b : ℕ) → b < 2147483648 → placed b ≡ 2147483648 + b
placed_low b h = ap (λ (t : Bool). cond t (4294967295 - b) (2147483648 + b)) (lt-leb 2147483648 b h)

pub unplaced_high : (k : ℕ) → 2147483648 ≤ k → unplaced k ≡ k - 2147483648
unplaced_high k h = ap (λ (t : Bool). cond t (k - 2147483648) (4294967295 - k)) (le-leb 2147483648 k h)

pub unplaced_low : (k : ℕ) → k < 2147483648 → unplaced k ≡ 4294967295 - k
unplaced_low k h = ap (λ (t : Bool). cond t (k - 2147483648) (4294967295 - k)) (lt-leb 2147483648 k h)

placed_lt : (b : ℕ) → b < 4294967296 → placed b < 4294967296
placed_lt b h = go (le_or_lt 2147483648 b)
  where
    go : (2147483648 ≤ b) ⊎ (b < 2147483648) → placed b < 4294967296
    go (inl l) = omega (arith, placed_high b l)
    go (inr l) = omega (arith, placed_low b l)

unplaced_placed : (b : ℕ) → b < 4294967296 → unplaced (placed b) ≡ b
unplaced_placed b h = go (le_or_lt 2147483648 b)
  where
    go : (2147483648 ≤ b) ⊎ (b < 2147483648) → unplaced (placed b) ≡ b
    go (inl l) = ap unplaced (placed_high b l) ∙ unplaced_low (4294967295 - b) (omega arith) ∙ omega arith
    go (inr l) = ap unplaced (placed_low b l) ∙ unplaced_high (2147483648 + b) (omega arith) ∙ omega arith

placed_unplaced : (k : ℕ) → k < 4294967296 → placed (unplaced k) ≡ k
placed_unplaced k h = go (le_or_lt 2147483648 k)
  where
    go : (2147483648 ≤ k) ⊎ (k < 2147483648) → placed (unplaced k) ≡ k
    go (inl l) = ap placed (unplaced_high k l) ∙ placed_low (k - 2147483648) (omega arith) ∙ omega arith
    go (inr l) = ap placed (unplaced_low k l) ∙ placed_high (4294967295 - k) (omega arith) ∙ omega arith

unplaced_lt : (k : ℕ) → k < 4294967296 → unplaced k < 4294967296
unplaced_lt k h = go (le_or_lt 2147483648 k)
  where
    go : (2147483648 ≤ k) ⊎ (k < 2147483648) → unplaced k < 4294967296
    go (inl l) = omega (arith, unplaced_high k l)
    go (inr l) = omega (arith, unplaced_low k l)

-- ---- a value's place and the value at a place
pub key_lt : (x : Float) → T (fits binary32 x) → total_key x < 4294967296
key_lt x h = placed_lt (to_bits binary32 x) (to_bits-lt binary32 x h)

pub value_back : (x : Float) → T (fits binary32 x) → value_of (total_key x) ≡ x
value_back x h = ap (of_bits binary32) (unplaced_placed (to_bits binary32 x) (to_bits-lt binary32 x h)) ∙ of_bits-to_bits binary32 x h

pub key_back : (k : ℕ) → k < 4294967296 → T (not (is_nan (value_of k))) → total_key (value_of k) ≡ k
key_back k h n = ap placed (to_bits-of_bits binary32 (unplaced k) (unplaced_lt k h) n) ∙ placed_unplaced k h

-- ---- an order
pub not_after_refl : (x : Float) → not_after x x ≡ true
not_after_refl x = le-leb (total_key x) (total_key x) (le_refl (total_key x))

pub not_after_trans : (x y z : Float) → not_after x y ≡ true → not_after y z ≡ true → not_after x z ≡ true
not_after_trans x y z h k =
    le-leb (total_key x) (total_key z) (le_trans (leb-true (total_key x) (total_key y) h) (leb-true (total_key y) (total_key z) k))

pub not_after_total : (x y : Float) → (not_after x y ≡ true) ⊎ (not_after y x ≡ true)
not_after_total x y = go (not_after x y) refl
  where
    go : (t : Bool) → not_after x y ≡ t → (not_after x y ≡ true) ⊎ (not_after y x ≡ true)
    go true e = inl e
    go false e = inr (le-leb (total_key y) (total_key x) (le_of_lt (leb-false (total_key x) (total_key y) e)))

pub not_after_antisym : (x y : Float) → T (fits binary32 x) → T (fits binary32 y) → not_after x y ≡ true → not_after y x ≡ true → x ≡ y
not_after_antisym x y p q h k =
    sym (value_back x p) ∙ ap value_of (le_antisymm (leb-true (total_key x) (total_key y) h) (leb-true (total_key y) (total_key x) k)) ∙ value_back y q

-- ---- the places of numbers
abbrev digits : ℕ → ℤ → ℕ
digits m e = pattern binary32 (in_units binary32 m e)

key_pos : (m : ℕ) (e : ℤ) → T (fits binary32 (fin false m e)) → total_key (fin false m e) ≡ 2147483648 + digits m e
key_pos m e h = ap placed (finite_bits binary32 false m e ∙ zero-add (digits m e)) ∙ placed_low (digits m e) (omega (arith, pattern_lt binary32 false m e h))

key_neg : (m : ℕ) (e : ℤ) → total_key (fin true m e) ≡ 4294967295 - (2147483648 + digits m e)
key_neg m e = ap placed (finite_bits binary32 true m e) ∙ placed_high (2147483648 + digits m e) (omega arith)

-- between the infinities
between : (s : Bool) (m : ℕ) (e : ℤ) → T (fits binary32 (fin s m e)) → (8388607 < total_key (fin s m e)) × (total_key (fin s m e) < 4286578688)
between true m e h = (omega (arith, key_neg m e, pattern_lt binary32 true m e h), omega (arith, key_neg m e))
between false m e h = (omega (arith, key_pos m e h), omega (arith, key_pos m e h, pattern_lt binary32 false m e h))

pub finite_before : (x : Float) → T (fits binary32 x) → finite x ≡ true → total_key x < 4294967295
finite_before nan h f = absurd (false≢true f)
finite_before (inf s) h f = absurd (false≢true f)
finite_before (fin s m e) h f = omega (arith, (between s m e h).1)

-- ---- by the numbers
pub lt_not_after : (x y : Float) → T (fits binary32 x) → T (fits binary32 y) → lt x y ≡ true → total_key x < total_key y
unfolding lt to_bits
lt_not_after nan y h k l = absurd (false≢true l)
lt_not_after (inf s) nan h k l = absurd (false≢true l)
lt_not_after (inf true) (inf true) h k l = absurd (false≢true l)
lt_not_after (inf true) (inf false) h k l = lit< tt
lt_not_after (inf false) (inf t) h k l = absurd (false≢true l)
lt_not_after (inf true) (fin t n d) h k l = (between t n d k).0
lt_not_after (inf false) (fin t n d) h k l = absurd (false≢true l)
lt_not_after (fin s m e) nan h k l = absurd (false≢true l)
lt_not_after (fin s m e) (inf true) h k l = absurd (false≢true l)
lt_not_after (fin s m e) (inf false) h k l = (between s m e h).1
lt_not_after (fin false m e) (fin false n d) h k l =
    omega (arith, key_pos m e h, key_pos n d k, rise binary32 false m e n d h k (ltb-true (m * up e * down d) (n * up d * down e) l))
lt_not_after (fin false m e) (fin true n d) h k l = absurd (false≢true l)
lt_not_after (fin true m e) (fin false n d) h k l = omega (arith, key_neg m e, key_pos n d k)
lt_not_after (fin true m e) (fin true n d) h k l =
    omega (arith, key_neg m e, key_neg n d, pattern_lt binary32 true m e h, rise binary32 true n d m e k h (ltb-true (n * up d * down e) (m * up e * down d) l))

pub zeros_apart : total_key (fin true 0 (pos 0)) < total_key (fin false 0 (pos 0))
unfolding to_bits
zeros_apart = lit< tt

pub nan_last : (x : Float) → T (fits binary32 x) → not_after x nan ≡ true
unfolding to_bits
nan_last nan h = not_after_refl nan
nan_last (inf true) h = refl
nan_last (inf false) h = refl
nan_last (fin s m e) h = le-leb (total_key (fin s m e)) 4290772992 (le_trans (le_of_lt (between s m e h).1) (lit≤ tt))
