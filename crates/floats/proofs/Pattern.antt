-- The bit pattern of a finite value, over the format: that of n of the format's smallest values rises with n, tells the value, and is below infinity's.
-- And the pattern of a rounded fraction by its kept number q and its dropped digits k: k * hid + q. Assumes nothing.
use mathlib.Core.Path.{◌≡◌, refl, sym, ap, ◌∙◌, subst}
use mathlib.Core.Logic.{◌⊎◌, inl, inr}
use mathlib.Core.Bool.{Bool, true, false, cond, false≢true}
use Prim.Native.Nat.{ℕ, zero, suc, ◌+◌, ◌-◌, ◌*◌, ◌/◌, ◌^◌, ◌≤◌, ◌<◌}
use native.Mathlib.Nat.{le_trans, le_of_eq, le_of_lt, le_refl, lt_irrefl, eq-or-lt_of_le, lt_of_lt_of_le, lt_of_le_of_lt, lt_of_not-le, not-le_of_lt, zero-add, add_assoc, mod-eq_of_lt, suc-mul, mul-one, mul_right_comm, mul-le-mul_right, mul-div_cancel, le-div_iff_mul-le}
use native.Mathlib.Omega.{arith}
use lib.Arith.{lt_of_le-ne, le→nltb}
use lib.Dec.{T, ltb}
use borrow.Author.Tests.{ltb-false}
use lib.IntN.{ℤ}
use lib.Pow.{pow-add, pow_pos, pow_mono, pow-lt, shl_lt, shl-shr, shr_mono}
use lib.Ieee.{Float, nan, inf, fin, Format, binary32, binary64, prec, emax, low, hid, ones, top, up, down, size, odd, units, round, fits, is_nan, to_bits, of_bits}
use lib.Ieee.Bits.{cond_no, of_bits-to_bits, to_bits-lt, nan_bits_is, nan_bits_above}
use lib.Ieee.Digits.{size-lt, size-le, size_reaches}
use lib.Ieee.Exact.{HasValue, units_val}
use lib.Ieee.Fits.{round_is, round-fits, down_pos, kept-lt, inf-fits, two, reach}
use lib.Ieee.Nearest.{closest, div_same, div_mono}
use lib.Ieee.Scale.{finite}

-- how many digits of n the format drops, and the pattern of n of its smallest values, without the sign
abbrev pub dropped : Format → ℕ → ℕ
dropped f n = size n - prec f

abbrev pub pattern : Format → ℕ → ℕ
pattern f n = dropped f n * hid f + n / 2 ^ dropped f n

-- ---- how many digits
size_gt : (n j : ℕ) → 2 ^ j ≤ n → j < size n
size_gt n j h = lt_of_not-le (λ (g : size n ≤ j). not-le_of_lt (lt_of_lt_of_le (size-lt n) (pow_mono g)) h)

pub size_is : (n z : ℕ) → n < 2 ^ suc z → 2 ^ z ≤ n → size n ≡ suc z
size_is n z h l = join (size n) (size-le n (suc z) h) (size_gt n z l)
  where
    join : (x : ℕ) → x ≤ suc z → z < x → x ≡ suc z
    join x a b = omega arith

size_mono : (a b : ℕ) → a ≤ b → size a ≤ size b
size_mono a b h = size-le a (size b) (lt_of_le_of_lt h (size-lt b))

twice_hid : (f : Format) → 2 ^ prec f ≡ 2 * hid f
twice_hid binary32 = refl
twice_hid binary64 = refl

-- ---- the pattern rises
pub pattern_mono : (f : Format) (a b : ℕ) → a ≤ b → pattern f a ≤ pattern f b
pattern_mono f a b h = go (eq-or-lt_of_le (fewer (size a) (size b) (prec f) (size_mono a b h)))
  where
    fewer : (x y p : ℕ) → x ≤ y → x - p ≤ y - p
    fewer x y p g = omega arith

    inside : (z k p : ℕ) → k ≡ z - p → 0 < k → 0 < p → p - 1 + k < z
    inside z k p e g q = omega arith

    apart : (j k H p q w : ℕ) → j < k → p < w → w ≡ 2 * H → H ≤ q → j * H + p ≤ k * H + q
    apart j k H p q w l m e n = more (j * H) (suc j * H) (k * H) H p q w (suc-mul j H) (mul-le-mul_right H l) m e n
      where
        more : (x y z H p q w : ℕ) → y ≡ x + H → y ≤ z → p < w → w ≡ 2 * H → H ≤ q → x + p ≤ z + q
        more x y z H p q w e g m d n = omega arith

    some : (j k : ℕ) → j < k → 0 < k
    some j k l = omega arith

    half : (p : ℕ) → 2 ≤ p → 0 < p
    half p l = omega arith

    add_le : (x y z : ℕ) → y ≤ z → x + y ≤ x + z
    add_le x y z g = omega arith

    go : (dropped f a ≡ dropped f b) ⊎ (dropped f a < dropped f b) → pattern f a ≤ pattern f b
    go (inl e) =
        subst (λ (z : ℕ). pattern f a ≤ z * hid f + b / 2 ^ z) e (add_le (dropped f a * hid f) (a / 2 ^ dropped f a) (b / 2 ^ dropped f a) (shr_mono (dropped f a) h))
    go (inr l) =
        let k = dropped f b in
        apart (dropped f a) k (hid f) (a / 2 ^ dropped f a) (b / 2 ^ k) (2 ^ prec f) l (kept-lt (prec f) a) (twice_hid f)
        ((le-div_iff_mul-le (pow_pos k)).1
        (le_trans (le_of_eq (sym (pow-add 2 (prec f - 1) k))) (size_reaches b (prec f - 1 + k) (inside (size b) k (prec f) refl (some (dropped f a) k l) (half (prec f) (two f))))))

-- ---- a value's pattern
pub value_bits : (f : Format) (v : Float) (s : Bool) (a c : ℕ) → 0 < c → HasValue v s a c → to_bits f v ≡ cond s (top f) 0 + pattern f (a * 2 ^ low f / c)
unfolding to_bits
value_bits f nan s a c C h = absurd h
value_bits f (inf t) s a c C h = absurd h
value_bits f (fin t m e) s a c C h =
    let n = m * up e * 2 ^ low f / down e in
    let cross : m * up e * 2 ^ low f * c ≡ a * 2 ^ low f * down e =
    mul_right_comm (m * up e) (2 ^ low f) c ∙ ap (λ (z : ℕ). z * 2 ^ low f) h.1 ∙ mul_right_comm a (down e) (2 ^ low f) in
    add_assoc (cond t (top f) 0) (dropped f n * hid f) (n / 2 ^ dropped f n)
    ∙ ap (λ (b : Bool). cond b (top f) 0 + pattern f n) h.0
    ∙ ap (λ (z : ℕ). cond s (top f) 0 + pattern f z) (div_same (m * up e * 2 ^ low f) (down e) (a * 2 ^ low f) c (down_pos e) C cross)

-- two values that the format holds are one where their signs and their sizes are
pub same_value : (f : Format) (x y : Float) (s : Bool) (a c : ℕ) → 0 < c → T (fits f x) → T (fits f y) → HasValue x s a c → HasValue y s a c → x ≡ y
same_value f x y s a c C p q h k =
    sym (of_bits-to_bits f x p) ∙ ap (of_bits f) (value_bits f x s a c C h ∙ sym (value_bits f y s a c C k)) ∙ of_bits-to_bits f y q

-- ---- finite values: their patterns stand in the order of their sizes, below infinity's
abbrev pub in_units : Format → ℕ → ℤ → ℕ
in_units f m e = m * up e * 2 ^ low f / down e

pub finite_bits : (f : Format) (s : Bool) (m : ℕ) (e : ℤ) → to_bits f (fin s m e) ≡ cond s (top f) 0 + pattern f (in_units f m e)
finite_bits f s m e = value_bits f (fin s m e) s (m * up e) (down e) (down_pos e) (refl, refl)

signless : (f : Format) (s t : Bool) (m : ℕ) (e : ℤ) → T (fits f (fin s m e)) → T (fits f (fin t m e))
unfolding fits
signless f s t zero e h = h
signless f s t (suc m) e h = h

-- of two values with one sign, the pattern of the smaller size is the smaller
pub rise : (f : Format) (s : Bool) (m : ℕ) (e : ℤ) (n : ℕ) (d : ℤ) → T (fits f (fin s m e)) → T (fits f (fin s n d)) → m * up e * down d < n * up d * down e → pattern f (in_units f m e) < pattern f (in_units f n d)
rise f s m e n d h k l =
    lt_of_le-ne
    (pattern_mono f (in_units f m e) (in_units f n d)
    (div_mono (m * up e * 2 ^ low f) (down e) (n * up d * 2 ^ low f) (down d) (down_pos e) (down_pos d)
    (le_trans (le_of_eq (mul_right_comm (m * up e) (2 ^ low f) (down d)))
    (le_trans (mul-le-mul_right (2 ^ low f) (le_of_lt l)) (le_of_eq (mul_right_comm (n * up d) (down e) (2 ^ low f)))))))
    (λ p. lt_irrefl (n * up d * down e) (subst (λ (z : ℕ). z < n * up d * down e) (level p) l))
  where
    one : pattern f (in_units f m e) ≡ pattern f (in_units f n d) → fin s n d ≡ fin s m e
    one p =
        sym (of_bits-to_bits f (fin s n d) k)
        ∙ ap (of_bits f) (finite_bits f s n d ∙ ap (λ (z : ℕ). cond s (top f) 0 + z) (sym p) ∙ sym (finite_bits f s m e))
        ∙ of_bits-to_bits f (fin s m e) h

    level : pattern f (in_units f m e) ≡ pattern f (in_units f n d) → m * up e * down d ≡ n * up d * down e
    level p = (subst (λ (z : Float). HasValue z s (n * up d) (down d)) (one p) (refl, refl)).1

-- and each is below infinity's
pub pattern_lt : (f : Format) (s : Bool) (m : ℕ) (e : ℤ) → T (fits f (fin s m e)) → pattern f (in_units f m e) < ones f * hid f
unfolding to_bits is_nan
pattern_lt f s m e h =
    lt_of_le-ne (ltb-false (ones f * hid f) p (ap (λ (z : ℕ). ltb (ones f * hid f) z) (sym (mod-eq_of_lt below)) ∙ sym (nan_bits_above f p) ∙ nan_bits_is f p ∙ ap is_nan back))
    (λ q. finite_not_inf (sym back ∙ ap (of_bits f) (q ∙ sym (zero-add (ones f * hid f))) ∙ of_bits-to_bits f (inf false) (inf-fits f false)))
  where
    p : ℕ
    p = pattern f (in_units f m e)

    below : p < top f
    below = off p (top f) (subst (λ (z : ℕ). z < 2 * top f) (finite_bits f true m e) (to_bits-lt f (fin true m e) (signless f s true m e h)))
      where
        off : (x t : ℕ) → t + x < 2 * t → x < t
        off x t g = omega arith

    back : of_bits f p ≡ fin false m e
    back = ap (of_bits f) (sym (finite_bits f false m e ∙ zero-add p)) ∙ of_bits-to_bits f (fin false m e) (signless f s false m e h)

    finite_not_inf : fin false m e ≡ inf false → ⊥
    finite_not_inf q = false≢true (sym (ap finite q))

-- ---- `round`, its dropped digits and its kept number named
pub round_units : (f : Format) (s : Bool) (a c k q : ℕ) → dropped f (a * 2 ^ low f / c) ≡ k → closest (a * 2 ^ low f) (c * 2 ^ k) ≡ q → round f s a c ≡ units f s q k
round_units f s a c k q e h =
    round_is f s a c
    ∙ ap (λ (j : ℕ). units f s (closest (a * 2 ^ low f) (c * 2 ^ j)) j) e
    ∙ ap (λ (x : ℕ). units f s x k) h

-- from 2 ^ (emax + 1) on
pub units_inf : (f : Format) (s : Bool) (q k : ℕ) → 2 ^ (low f + suc (emax f)) ≤ q * 2 ^ k → units f s q k ≡ inf s
unfolding units
units_inf f s q k h =
    cond_no (ltb (q * 2 ^ k) (2 ^ (low f + suc (emax f)))) (odd (suc (prec f)) s q k (low f)) (inf s) (le→nltb (q * 2 ^ k) (2 ^ (low f + suc (emax f))) h)

-- ---- the pattern of q * 2 ^ k units
abbrev Fields : Format → ℕ → ℕ → Type 0
Fields f q k = pattern f (q * 2 ^ k) ≡ k * hid f + q

at_drop : (f : Format) (q k : ℕ) → dropped f (q * 2 ^ k) ≡ k → Fields f q k
at_drop f q k e = ap (λ (z : ℕ). z * hid f + q * 2 ^ k / 2 ^ z) e ∙ ap (λ (z : ℕ). k * hid f + z) (shl-shr q k)

fields_full : (f : Format) (q k : ℕ) → hid f ≤ q → q < 2 ^ prec f → Fields f q k
fields_full f q k l h =
    at_drop f q k
    (ap (λ (z : ℕ). z - prec f)
    (size_is (q * 2 ^ k) (prec f - 1 + k)
    (subst (λ (z : ℕ). q * 2 ^ k < 2 ^ z) (turn (prec f) k (two f)) (shl_lt (prec f) k h))
    (le_trans (le_of_eq (pow-add 2 (prec f - 1) k)) (mul-le-mul_right (2 ^ k) l)))
    ∙ off (prec f) k (two f))
  where
    turn : (p j : ℕ) → 2 ≤ p → p + j ≡ suc (p - 1 + j)
    turn p j g = omega arith

    off : (p j : ℕ) → 2 ≤ p → suc (p - 1 + j) - p ≡ j
    off p j g = omega arith

fields_low : (f : Format) (q : ℕ) → q < 2 ^ prec f → Fields f q 0
fields_low f q h = at_drop f q 0 (none (size (q * 1)) (prec f) (size-le (q * 1) (prec f) (subst (λ (z : ℕ). z < 2 ^ prec f) (sym (mul-one q)) h)))
  where
    none : (x p : ℕ) → x ≤ p → x - p ≡ 0
    none x p l = omega arith

fields_carry : (f : Format) (k : ℕ) → Fields f (2 ^ prec f) k
fields_carry f k =
    let p = prec f in
    let w : 2 ^ p * 2 ^ k ≡ hid f * 2 ^ suc k = sym (pow-add 2 p k) ∙ ap (λ (z : ℕ). 2 ^ z) (turn p k (two f)) ∙ pow-add 2 (p - 1) (suc k) in
    let e : dropped f (2 ^ p * 2 ^ k) ≡ suc k =
    ap (λ (z : ℕ). z - p)
    (size_is (2 ^ p * 2 ^ k) (p + k) (subst (λ (z : ℕ). z < 2 ^ suc (p + k)) (pow-add 2 p k) (pow-lt (le_refl (suc (p + k))))) (le_of_eq (pow-add 2 p k)))
    ∙ off p k in
    ap (λ (z : ℕ). z * hid f + 2 ^ p * 2 ^ k / 2 ^ z) e
    ∙ ap (λ (z : ℕ). suc k * hid f + z) (ap (λ (z : ℕ). z / 2 ^ suc k) w ∙ shl-shr (hid f) (suc k))
    ∙ last (k * hid f) (suc k * hid f) (hid f) (2 ^ p) (suc-mul k (hid f)) (twice_hid f)
  where
    turn : (p j : ℕ) → 2 ≤ p → p + j ≡ p - 1 + suc j
    turn p j g = omega arith

    off : (p j : ℕ) → suc (p + j) - p ≡ suc j
    off p j = omega arith

    last : (x y H w : ℕ) → y ≡ x + H → w ≡ 2 * H → y + H ≡ x + w
    last x y H w e g = omega arith

fields : (f : Format) (q k : ℕ) → q ≤ 2 ^ prec f → (k ≡ 0) ⊎ (hid f ≤ q) → Fields f q k
fields f q k h d = go (eq-or-lt_of_le h) d
  where
    go : (q ≡ 2 ^ prec f) ⊎ (q < 2 ^ prec f) → (k ≡ 0) ⊎ (hid f ≤ q) → Fields f q k
    go (inl e) x = subst (λ (z : ℕ). Fields f z k) (sym e) (fields_carry f k)
    go (inr l) (inl z) = subst (λ (j : ℕ). Fields f q j) (sym z) (fields_low f q l)
    go (inr l) (inr b) = fields_full f q k b l

-- the most digits that a finite value drops
abbrev pub most : Format → ℕ
most f = 2 * emax f - 1

module _ (f : Format) (s : Bool) (q k : ℕ) (h : q ≤ 2 ^ prec f) (d : (k ≡ 0) ⊎ (hid f ≤ q)) where
  bits_under : q * 2 ^ k < 2 ^ (low f + suc (emax f)) → to_bits f (units f s q k) ≡ cond s (top f) 0 + (k * hid f + q)
  bits_under o =
      value_bits f (units f s q k) s (q * 2 ^ k) (2 ^ low f) (pow_pos (low f)) (units_val f s q k o)
      ∙ ap (λ (z : ℕ). cond s (top f) 0 + pattern f z) (mul-div_cancel (q * 2 ^ k) (pow_pos (low f)))
      ∙ ap (λ (z : ℕ). cond s (top f) 0 + z) (fields f q k h d)

at_infinity : (f : Format) (s : Bool) → to_bits f (units f s (2 ^ prec f) (most f)) ≡ cond s (top f) 0 + (most f * hid f + 2 ^ prec f)
unfolding to_bits units
at_infinity binary32 s = refl
at_infinity binary64 s = refl

units_bits : (f : Format) (s : Bool) (q k : ℕ) → q ≤ 2 ^ prec f → (k ≡ 0) ⊎ (hid f ≤ q) → k ≤ most f → to_bits f (units f s q k) ≡ cond s (top f) 0 + (k * hid f + q)
units_bits f s q k h d l = go (eq-or-lt_of_le h) (eq-or-lt_of_le l)
  where
    room : (p m j : ℕ) → 2 ≤ p → p ≤ suc m → j ≤ 2 * m - 1 → p + j ≤ m + p - 2 + suc m
    room p m j a b x = omega arith

    less : (p m j : ℕ) → 2 ≤ p → p ≤ suc m → j < 2 * m - 1 → p + j < m + p - 2 + suc m
    less p m j a b x = omega arith

    go : (q ≡ 2 ^ prec f) ⊎ (q < 2 ^ prec f) → (k ≡ most f) ⊎ (k < most f) → to_bits f (units f s q k) ≡ cond s (top f) 0 + (k * hid f + q)
    go (inr a) y = bits_under f s q k h d (lt_of_lt_of_le (shl_lt (prec f) k a) (pow_mono (room (prec f) (emax f) k (two f) (reach f) l)))
    go (inl e) (inr b) =
        bits_under f s q k h d
        (subst (λ (z : ℕ). z * 2 ^ k < 2 ^ (low f + suc (emax f))) (sym e)
        (subst (λ (z : ℕ). z < 2 ^ (low f + suc (emax f))) (pow-add 2 (prec f) k) (pow-lt (less (prec f) (emax f) k (two f) (reach f) b))))
    go (inl e) (inl g) =
        subst (λ (z : ℕ). to_bits f (units f s z k) ≡ cond s (top f) 0 + (k * hid f + z)) (sym e)
        (subst (λ (j : ℕ). to_bits f (units f s (2 ^ prec f) j) ≡ cond s (top f) 0 + (j * hid f + 2 ^ prec f)) (sym g) (at_infinity f s))

-- the value of that pattern is the rounded fraction
pub round_bits : (f : Format) (s : Bool) (a c k q : ℕ) → dropped f (a * 2 ^ low f / c) ≡ k → closest (a * 2 ^ low f) (c * 2 ^ k) ≡ q → q ≤ 2 ^ prec f → (k ≡ 0) ⊎ (hid f ≤ q) → k ≤ most f
    → of_bits f (cond s (top f) 0 + (k * hid f + q)) ≡ round f s a c
round_bits f s a c k q e h b d l =
    ap (of_bits f) (sym (units_bits f s q k b d l))
    ∙ ap (λ (z : Float). of_bits f (to_bits f z)) (sym (round_units f s a c k q e h))
    ∙ of_bits-to_bits f (round f s a c) (round-fits f s a c)
