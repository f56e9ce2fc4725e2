-- What rounding, adding, subtracting, halving and dividing leave of a bound, over the format. A whole bound that the format holds survives a rounding; so those of a sum add up, and a
-- quotient by a whole number divides its bound. Assumes nothing.
use mathlib.Core.Path.{◌≡◌, refl, sym, ap, ◌∙◌, subst}
use Prim.Native.Nat.{ℕ, zero, suc, ◌+◌, ◌-◌, ◌*◌, ◌^◌, ◌≤◌, ◌<◌}
use native.Mathlib.Nat.{le_trans, le_of_eq, le_of_lt, mul-one, one-mul, mul_comm, mul_assoc, mul_right_comm, suc-mul, zero-mul, add-mul, mul-pos, mul-le-mul_left, mul-le-mul_right, le_of_mul-le-mul_right, eq-or-lt_of_le}
use native.Mathlib.Omega.{arith}
use mathlib.Core.Logic.{◌⊎◌, inl, inr}
use mathlib.Core.Bool.{Bool, true, false, not, cond, beq, true≢false, ◌&&◌, ◌||◌}
use borrow.Author.Tests.{lt-ltb, le-ltb, eq-eqb}
use lib.Dec.{T, ltb, eqb, eqb-suc-zero, ltb→lt, eqb→eq, lit<}
use lib.IntN.{pos, negsuc}
use lib.Ieee.{Float, nan, inf, fin, Format, prec, emax, low, up, down, odd, units, round, sum, add, sub, mul, div, neg, lt, le, eq, of_int, unlike}
use lib.Ieee.Back.{round_whole}
use lib.Ieee.Exact.{HasValue}
use lib.Ieee.Fits.{round_is, down_pos}
use lib.Ieee.Order.{round_mono, le_of_values}
use lib.Ieee.Scale.{finite}
use Rattle.floats.specs.Plain.{half}
use Rattle.floats.specs.Sizes.{Within, Half, FromTo}

pub within_finite : (x : Float) (k : ℕ) → Within k x → finite x ≡ true
within_finite nan k w = absurd w
within_finite (inf s) k w = absurd w
within_finite (fin s m e) k w = refl

pub from_to_wider : (x : Float) (a b c d : ℕ) → c ≤ a → b ≤ d → FromTo a b x → FromTo c d x
from_to_wider nan a b c d g h p = p
from_to_wider (inf s) a b c d g h p = p
from_to_wider (fin s m e) a b c d g h p = (p.0, le_trans (mul-le-mul_right (down e) g) p.1, le_trans p.2 (mul-le-mul_right (down e) h))

-- ---- rounding: with a sign it is as without, but for the sign

abbrev signed : Bool → Float → Float
signed s nan = nan
signed s (inf t) = inf s
signed s (fin t m e) = fin s m e

abbrev plain : Float → Bool
plain nan = false
plain (inf s) = not s
plain (fin s m e) = not s

odd_sign : (d : ℕ) (s : Bool) (q k l : ℕ) → odd d s q k l ≡ signed s (odd d false q k l)
unfolding odd
odd_sign d s zero k l = refl
odd_sign d s (suc q) k l = refl

odd_plain : (d q k l : ℕ) → T (plain (odd d false q k l))
unfolding odd
odd_plain d zero k l = tt
odd_plain d (suc q) k l = tt

units_sign : (f : Format) (s : Bool) (q k : ℕ) → units f s q k ≡ signed s (units f false q k)
unfolding units
units_sign f s q k = go (ltb (q * 2 ^ k) (2 ^ (low f + suc (emax f))))
  where
    go : (b : Bool) → cond b (odd (suc (prec f)) s q k (low f)) (inf s) ≡ signed s (cond b (odd (suc (prec f)) false q k (low f)) (inf false))
    go true = odd_sign (suc (prec f)) s q k (low f)
    go false = refl

units_plain : (f : Format) (q k : ℕ) → T (plain (units f false q k))
unfolding units
units_plain f q k = go (ltb (q * 2 ^ k) (2 ^ (low f + suc (emax f))))
  where
    go : (b : Bool) → T (plain (cond b (odd (suc (prec f)) false q k (low f)) (inf false)))
    go true = odd_plain (suc (prec f)) q k (low f)
    go false = tt

round_sign : (f : Format) (s : Bool) (a c : ℕ) → round f s a c ≡ signed s (round f false a c)
round_sign f s a c = round_is f s a c ∙ units_sign f s _ _ ∙ ap (signed s) (sym (round_is f false a c))

round_plain : (f : Format) (a c : ℕ) → T (plain (round f false a c))
round_plain f a c = subst (λ (x : Float). T (plain x)) (sym (round_is f false a c)) (units_plain f _ _)

-- ---- rounding keeps a whole bound that the format holds

or_le : (a b : ℕ) (x : Bool) → T (ltb a b || (eqb a b && x)) → a ≤ b
or_le a b x h = go (ltb a b) (eqb a b) x (ltb→lt a b) (eqb→eq a b) h
  where
    go : (u v x : Bool) → (T u → a < b) → (T v → a ≡ b) → T (u || (v && x)) → a ≤ b
    go true v x f g h = le_of_lt (f tt)
    go false true x f g h = le_of_eq (g tt)
    go false false x f g h = absurd h

cancel : (x n d e k : ℕ) → 0 < d → x * d ≤ k * e → k * 1 ≡ n * d → x ≤ n * e
cancel x n d e k D h q =
    le_of_mul-le-mul_right (le_trans h (le_of_eq (ap (λ (z : ℕ). z * e) (sym (mul-one k) ∙ q) ∙ mul_right_comm n d e))) D

cancel_up : (x n d e k : ℕ) → 0 < d → k * e ≤ x * d → k * 1 ≡ n * d → n * e ≤ x
cancel_up x n d e k D h q =
    le_of_mul-le-mul_right (le_trans (le_of_eq (mul_right_comm n e d ∙ ap (λ (z : ℕ). z * e) (sym q ∙ mul-one k))) h) D

le_within : (x y : Float) (n : ℕ) → T (plain x) → HasValue y false n 1 → T (le x y) → Within n x
unfolding le lt eq
le_within nan y n p v h = absurd p
le_within (inf s) nan n p v h = absurd v
le_within (inf s) (inf t) n p v h = absurd v
le_within (inf true) (fin t m e) n p v h = absurd p
le_within (inf false) (fin t m e) n p v h = absurd h
le_within (fin true m e) y n p v h = absurd p
le_within (fin false m e) nan n p v h = absurd v
le_within (fin false m e) (inf t) n p v h = absurd v
le_within (fin false m e) (fin true k d) n p v h = absurd (true≢false v.0)
le_within (fin false m e) (fin false k d) n p v h =
    cancel (m * up e) n (down d) (down e) (k * up d) (down_pos d) (or_le (m * up e * down d) (k * up d * down e) true h) v.1

ge_from_to : (x y : Float) (lo hi : ℕ) → T (plain x) → HasValue y false lo 1 → T (le y x) → Within hi x → FromTo lo hi x
unfolding le lt eq
ge_from_to nan y lo hi p v h w = absurd w
ge_from_to (inf s) y lo hi p v h w = absurd w
ge_from_to (fin true m e) y lo hi p v h w = absurd p
ge_from_to (fin false m e) nan lo hi p v h w = absurd v
ge_from_to (fin false m e) (inf t) lo hi p v h w = absurd v
ge_from_to (fin false m e) (fin true k d) lo hi p v h w = absurd (true≢false v.0)
ge_from_to (fin false m e) (fin false k d) lo hi p v h w =
    (refl, cancel_up (m * up e) lo (down d) (down e) (k * up d) (down_pos d) (or_le (k * up d * down e) (m * up e * down d) true h) v.1, w)

within_signed : (s : Bool) (x : Float) (n : ℕ) → Within n x → Within n (signed s x)
within_signed s nan n w = w
within_signed s (inf t) n w = w
within_signed s (fin t m e) n w = w

pub round_within : (f : Format) (s : Bool) (a c n : ℕ) → 0 < c → n ≤ 2 ^ prec f → a ≤ n * c → Within n (round f s a c)
round_within f s a c n C N h =
    subst (Within n) (sym (round_sign f s a c))
    (within_signed s (round f false a c) n
    (le_within (round f false a c) (round f false n 1) n (round_plain f a c) (round_whole f false n N)
    (round_mono f a c n 1 C (lit< tt) (le_trans (le_of_eq (mul-one a)) h))))

round_from_to : (f : Format) (a c lo hi : ℕ) → 0 < c → lo ≤ 2 ^ prec f → hi ≤ 2 ^ prec f → lo * c ≤ a → a ≤ hi * c → FromTo lo hi (round f false a c)
round_from_to f a c lo hi C L H g h =
    ge_from_to (round f false a c) (round f false lo 1) lo hi (round_plain f a c) (round_whole f false lo L)
    (round_mono f lo 1 a c (lit< tt) C (le_trans g (le_of_eq (sym (mul-one a))))) (round_within f false a c hi C H h)

-- ---- sums and differences: the bounds add up

module _ (f : Format) where
  sum_within : (s : Bool) (a : ℕ) (t : Bool) (b c j k : ℕ) → 0 < c → j + k ≤ 2 ^ prec f → a ≤ j * c → b ≤ k * c → Within (j + k) (sum f s a t b c)
  unfolding sum
  sum_within s a t b c j k h l p q = go (beq s t) (ltb a b)
    where
      bound : (n : ℕ) → n ≤ a + b → n ≤ (j + k) * c
      bound n e = omega (arith, add-mul j k c)

      go : (x y : Bool) → Within (j + k) (cond x (round f s (a + b) c) (cond y (round f t (b - a) c) (round f (s && ltb b a) (a - b) c)))
      go true y = round_within f s (a + b) c (j + k) h l (bound (a + b) (omega arith))
      go false true = round_within f t (b - a) c (j + k) h l (bound (b - a) (omega arith))
      go false false = round_within f (s && ltb b a) (a - b) c (j + k) h l (bound (a - b) (omega arith))

  pub add_within : (x y : Float) (j k : ℕ) → j + k ≤ 2 ^ prec f → Within j x → Within k y → Within (j + k) (add f x y)
  unfolding add
  add_within nan y j k l p q = absurd p
  add_within (inf s) y j k l p q = absurd p
  add_within (fin s m e) nan j k l p q = absurd q
  add_within (fin s m e) (inf t) j k l p q = absurd q
  add_within (fin s m e) (fin t n d) j k l p q =
      sum_within s (m * up e * down d) t (n * up d * down e) (down e * down d) j k (mul-pos (down_pos e) (down_pos d)) l
      (le_trans (mul-le-mul_right (down d) p) (le_of_eq (mul_assoc j (down e) (down d))))
      (le_trans (mul-le-mul_right (down e) q) (le_of_eq (mul_right_comm k (down d) (down e) ∙ mul_assoc k (down e) (down d))))

  neg_within : (x : Float) (k : ℕ) → Within k x → Within k (neg x)
  unfolding neg
  neg_within nan k p = p
  neg_within (inf s) k p = p
  neg_within (fin s m e) k p = p

  pub sub_within : (x y : Float) (j k : ℕ) → j + k ≤ 2 ^ prec f → Within j x → Within k y → Within (j + k) (sub f x y)
  unfolding sub
  sub_within x y j k l p q = add_within x (neg y) j k l p (neg_within y k q)

  -- ---- half a number has half its bound

  pub half_within : (x : Float) (k : ℕ) → k ≤ 2 ^ prec f → Within (2 * k) x → Within k (mul f half x)
  unfolding mul
  half_within nan k l p = p
  half_within (inf s) k l p = absurd p
  half_within (fin s m e) k l p =
      round_within f (unlike false s) (1 * up (negsuc 0) * (m * up e)) (down (negsuc 0) * down e) k (mul-pos (down_pos (negsuc 0)) (down_pos e)) l
      (le_trans (le_of_eq (one-mul (m * up e))) (le_trans p (le_of_eq (ap (λ (z : ℕ). z * down e) (mul_comm 2 k) ∙ mul_assoc k 2 (down e)))))

  -- ---- a quotient by the whole number n

  quotient_within : (x y : Float) (k n : ℕ) → 0 < n → k ≤ 2 ^ prec f → HasValue y false n 1 → Within (k * n) x → Within k (div f x y)
  unfolding div
  quotient_within nan y k n h l v p = absurd p
  quotient_within (inf s) y k n h l v p = absurd p
  quotient_within (fin s m e) nan k n h l v p = absurd v
  quotient_within (fin s m e) (inf t) k n h l v p = absurd v
  quotient_within (fin s m e) (fin t zero d) k n h l v p = absurd (none (down d) (up d) (mul-pos h (down_pos d)) v.1)
    where
      none : (u w : ℕ) → 0 < n * u → 0 * w * 1 ≡ n * u → ⊥
      none u w a b = omega (arith, zero-mul w)
  quotient_within (fin s m e) (fin t (suc o) d) k n h l v p =
      let w : suc o * up d ≡ n * down d = sym (mul-one (suc o * up d)) ∙ v.1 in
      let c : 0 < suc o * up d * down e = mul-pos (subst (λ (z : ℕ). 0 < z) (sym w) (mul-pos h (down_pos d))) (down_pos e) in
      let a : k * n * down e * down d ≡ k * (n * down d * down e) = simp (mul_assoc, mul_comm) in
      let g : k * n * down e * down d ≡ k * (suc o * up d * down e) = a ∙ ap (λ (z : ℕ). k * (z * down e)) (sym w) in
      rw (eqb-suc-zero o) (round_within f (unlike s t) (m * up e * down d) (suc o * up d * down e) k c l (le_trans (mul-le-mul_right (down d) p) (le_of_eq g)))

  pub div_within : (x : Float) (k n : ℕ) → 0 < n → n ≤ 2 ^ prec f → k ≤ 2 ^ prec f → Within (k * n) x → Within k (div f x (of_int f (pos n)))
  unfolding of_int
  div_within x k n h l i p = quotient_within x (round f false n 1) k n h i (round_whole f false n l) p

-- ---- k + 1 and at most a half, either way, lies from k to k + 2

-- the first number is A / C, the second B / C
module _ (f : Format) (k : ℕ) (K : suc (suc k) ≤ 2 ^ prec f) (A B C : ℕ) (CP : 0 < C) (a : A ≡ suc k * C) (b : 2 * B ≤ C) where
  small : k ≤ 2 ^ prec f
  small = omega arith

  sum_from_to : (s : Bool) → FromTo k (suc (suc k)) (sum f false A s B C)
  unfolding sum
  sum_from_to false =
      round_from_to f (A + B) C k (suc (suc k)) CP small K (omega (arith, suc-mul k C)) (omega (arith, suc-mul k C, suc-mul (suc k) C))
  sum_from_to true =
      let r : B ≤ A = omega (arith, suc-mul k C) in
      rw (le-ltb A B r)
      (round_from_to f (A - B) C k (suc (suc k)) CP small K (omega (arith, suc-mul k C)) (omega (arith, suc-mul k C, suc-mul (suc k) C)))

pub add_from_to : (f : Format) (k : ℕ) → suc (suc k) ≤ 2 ^ prec f → (x y : Float) → HasValue x false (suc k) 1 → Half y → FromTo k (suc (suc k)) (add f x y)
unfolding add
add_from_to f k K nan y v h = absurd v
add_from_to f k K (inf s) y v h = absurd v
add_from_to f k K (fin s m e) nan v h = absurd h
add_from_to f k K (fin s m e) (inf t) v h = absurd h
add_from_to f k K (fin true m e) (fin t n d) v h = absurd (true≢false v.0)
add_from_to f k K (fin false m e) (fin t n d) v h =
    sum_from_to f k K (m * up e * down d) (n * up d * down e) (down e * down d) (mul-pos (down_pos e) (down_pos d))
    (ap (λ (z : ℕ). z * down d) (sym (mul-one (m * up e)) ∙ v.1) ∙ mul_assoc (suc k) (down e) (down d))
    (le_trans (le_of_eq (sym (mul_assoc 2 (n * up d) (down e)))) (le_trans (mul-le-mul_right (down e) h) (le_of_eq (mul_comm (down d) (down e))))) t

-- ---- a whole number over one from a to b

module _ (f : Format) (n a b lo hi : ℕ) (A : 0 < a) (lower : lo * b ≤ n) (upper : n ≤ hi * a) (L : lo ≤ 2 ^ prec f) (H : hi ≤ 2 ^ prec f) where
  -- P is n X, Q from a X to b X
  quotient_from_to : (P Q X : ℕ) → 0 < X → P ≡ n * X → a * X ≤ Q → Q ≤ b * X → FromTo lo hi (round f false P Q)
  quotient_from_to P Q X XP p g h =
      round_from_to f P Q lo hi (le_trans (mul-pos A XP) g) L H
      (le_trans (mul-le-mul_left lo h) (le_trans (le_of_eq (sym (mul_assoc lo b X))) (le_trans (mul-le-mul_right X lower) (le_of_eq (sym p)))))
      (le_trans (le_of_eq p) (le_trans (mul-le-mul_right X upper) (le_trans (le_of_eq (mul_assoc hi a X)) (mul-le-mul_left hi g))))

  none : (u w : ℕ) → 0 < w → a * w ≤ 0 * u → ⊥
  none u w W g = omega (arith, mul-pos A W)

  pub div_from_to : (x y : Float) → HasValue x false n 1 → FromTo a b y → FromTo lo hi (div f x y)
  unfolding div
  div_from_to nan y v h = absurd v
  div_from_to (inf s) y v h = absurd v
  div_from_to (fin s m e) nan v h = absurd h
  div_from_to (fin s m e) (inf t) v h = absurd h
  div_from_to (fin true m e) (fin t k d) v h = absurd (true≢false v.0)
  div_from_to (fin false m e) (fin true k d) v h = absurd (true≢false h.0)
  div_from_to (fin false m e) (fin false zero d) v h = absurd (none (up d) (down d) (down_pos d) h.1)
  div_from_to (fin false m e) (fin false (suc k) d) v h =
      rw (eqb-suc-zero k)
      (quotient_from_to (m * up e * down d) (suc k * up d * down e) (down e * down d) (mul-pos (down_pos e) (down_pos d))
      (ap (λ (z : ℕ). z * down d) (sym (mul-one (m * up e)) ∙ v.1) ∙ mul_assoc n (down e) (down d))
      (le_trans (le_of_eq (ap (λ (z : ℕ). a * z) (mul_comm (down e) (down d)) ∙ sym (mul_assoc a (down d) (down e)))) (mul-le-mul_right (down e) h.1))
      (le_trans (mul-le-mul_right (down e) h.2) (le_of_eq (mul_assoc b (down d) (down e) ∙ ap (λ (z : ℕ). b * z) (mul_comm (down d) (down e))))))

-- ---- the same by `le`

either : (u v : Bool) → u ≡ true → T (u || v)
either true v h = tt
either false v h = absurd (true≢false (sym h))

-- at most, as `lt` or `eq`, the second in either order
flag : (a b : ℕ) (t : Bool) → a ≤ b → (a ≡ b → t ≡ true) → T (ltb a b || (t && true))
flag a b t h f = go (eq-or-lt_of_le h)
  where
    last : (u : Bool) → T (u || true)
    last true = tt
    last false = tt

    go : (a ≡ b) ⊎ (a < b) → T (ltb a b || (t && true))
    go (inl e) = rw (f e) (last (ltb a b))
    go (inr l) = either (ltb a b) (t && true) (lt-ltb a b l)

pub within_le : (x : Float) (n : ℕ) → 0 < n → Within n x → T (le (fin true n (pos 0)) x) × T (le x (fin false n (pos 0)))
unfolding le lt eq
within_le nan n N w = absurd w
within_le (inf s) n N w = absurd w
within_le (fin s m e) n N w = go s
  where
    A : ℕ
    A = n * up (pos 0) * down e

    B : ℕ
    B = m * up e * down (pos 0)

    less : B ≤ A
    less = le_trans (le_of_eq (mul-one (m * up e))) (le_trans w (le_of_eq (ap (λ (z : ℕ). z * down e) (sym (mul-one n)))))

    some : 0 < A
    some = mul-pos (mul-pos N (lit< tt)) (down_pos e)

    go : (s : Bool) → T (le (fin true n (pos 0)) (fin s m e)) × T (le (fin s m e) (fin false n (pos 0)))
    go false = (either (ltb 0 (A + B)) _ (lt-ltb 0 (A + B) (omega (arith, some))), flag B A (eqb B A) less (eq-eqb B A))
    go true = (flag B A (eqb A B) less (λ e. eq-eqb A B (sym e)), either (ltb 0 (B + A)) _ (lt-ltb 0 (B + A) (omega (arith, some))))

pub from_to_le : (x : Float) (lo hi : ℕ) → FromTo lo hi x → T (le (fin false lo (pos 0)) x) × T (le x (fin false hi (pos 0)))
from_to_le nan lo hi p = absurd p
from_to_le (inf s) lo hi p = absurd p
from_to_le (fin s m e) lo hi p = (
  le_of_values (fin false lo (pos 0)) (fin s m e) lo 1 (m * up e) (down e) (lit< tt) (down_pos e) (refl, mul-one (lo * 1)) (p.0, refl) (le_trans p.1 (le_of_eq (sym (mul-one (m * up e))))),
  le_of_values (fin s m e) (fin false hi (pos 0)) (m * up e) (down e) hi 1 (down_pos e) (lit< tt) (p.0, refl) (refl, mul-one (hi * 1)) (le_trans (le_of_eq (mul-one (m * up e))) p.2),
)
