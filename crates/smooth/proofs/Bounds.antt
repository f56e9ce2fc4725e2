-- What holds of every level, whatever the dB is: it is no NaN (`level_number`), and never -0.0 (`level_plain`, `no_minus_zero`). Where every finite dB is at most k in size, for a whole number k from
-- 100 to 3,355,443, so is every level, which is then finite (`level_within`). Assumes nothing.
use Prim.Native.Nat.{ℕ, zero, suc, ◌+◌, ◌-◌, ◌*◌, ◌^◌, ◌≤◌, ◌<◌, min}
use native.Mathlib.Nat.{mul-zero, mul-suc, zero-add, mul-le-mul_left}
use native.Mathlib.Omega.{arith}
use mathlib.Core.Path.{◌≡◌, refl, ap, subst}
use mathlib.Core.Bool.{true, false, true≢false}
use mathlib.Core.List.{List, [], ◌∷◌, map, foldl}
use lib.IntN.{ℤ, pos}
use lib.ListN.{length, take, length-map}
use lib.Seq.{slice, length-slice}
use lib.Ieee.{Float, nan, inf, fin, binary32, add, div, of_int, is_nan}
use lib.Ieee.Scale.{finite}
use Rattle.floats.specs.Plain.{zero_f, plain_zero}
use Rattle.floats.specs.Sizes.{Within}
use Rattle.floats.proofs.Numbers.{add_number, div_whole_number}
use Rattle.floats.proofs.Sizes.{add_within, div_within}
use Rattle.lists.specs.By.{Each}
use Rattle.lists.proofs.Parts.{each_take, each_drop}
use Rattle.smooth.specs.Level.{clean, five_around, sum_of, level_at}

-- ---- the frames of a window
in_window : {A : Type 0} (P : A → Type 0) (l : List A) (a b : ℕ) → Each P l → Each P (slice a b l)
in_window P l a b h = each_drop P a (take b l) (each_take P b l h)

-- from one to five
window_size : (c : List Float) (i : ℕ) → i < length c → (0 < length (five_around c i)) × (length (five_around c i) ≤ 5)
window_size c i h =
    let e : length (five_around c i) ≡ min (i + 3) (length c) - (i - 2) = length-slice (i - 2) (min (i + 3) (length c)) c (omega arith) in
    (omega arith, omega arith)

-- ---- what a frame reads as
clean_finite : (d : Float) → finite (clean d) ≡ true
clean_finite nan = refl
clean_finite (inf s) = refl
clean_finite (fin s m e) = refl

all_clean : (db : List Float) → Each (λ x. finite x ≡ true) (map clean db)
all_clean [] = tt
all_clean (d ∷ db) = (clean_finite d, all_clean db)

clean_within : (k : ℕ) → 100 ≤ k → (d : Float) → (finite d ≡ true → Within k d) → Within k (clean d)
clean_within k h nan p = omega arith
clean_within k h (inf s) p = omega arith
clean_within k h (fin s m e) p = p refl

all_within : (k : ℕ) → 100 ≤ k → (db : List Float) → Each (λ d. finite d ≡ true → Within k d) db → Each (Within k) (map clean db)
all_within k h [] p = tt
all_within k h (d ∷ db) p = (clean_within k h d p.0, all_within k h db p.1)

-- ---- sums
sum_number : (m : Float) (xs : List Float) → is_nan m ≡ false → Each (λ x. finite x ≡ true) xs → is_nan (foldl (add binary32) m xs) ≡ false
sum_number m [] p h = p
sum_number m (x ∷ xs) p h = sum_number (add binary32 m x) xs (add_number binary32 m x p h.0) h.1

sum_within : (m : Float) (xs : List Float) (j k : ℕ) → j + k * length xs ≤ 2 ^ 24 → Within j m → Each (Within k) xs → Within (j + k * length xs) (foldl (add binary32) m xs)
sum_within m [] j k l p h = subst (λ (n : ℕ). Within n m) (omega (arith, mul-zero k)) p
sum_within m (x ∷ xs) j k l p h =
    let e : j + k + k * length xs ≡ j + k * suc (length xs) = omega (arith, mul-suc k (length xs)) in
    subst (λ (n : ℕ). Within n (foldl (add binary32) (add binary32 m x) xs)) e (sum_within (add binary32 m x) xs (j + k) k (omega arith) (add_within binary32 m x j k (omega arith) p h.0) h.1)

-- ---- a zero that is written as +0.0
plain_number : (x : Float) → is_nan x ≡ false → is_nan (plain_zero x) ≡ false
plain_number nan p = p
plain_number (inf s) p = p
plain_number (fin s zero e) p = unfold is_nan in refl
plain_number (fin s (suc m) e) p = p

plain_within : (k : ℕ) (x : Float) → Within k x → Within k (plain_zero x)
plain_within k nan p = p
plain_within k (inf s) p = p
plain_within k (fin s zero e) p = omega arith
plain_within k (fin s (suc m) e) p = p

plain_again : (x : Float) → plain_zero (plain_zero x) ≡ plain_zero x
plain_again nan = refl
plain_again (inf s) = refl
plain_again (fin s zero e) = refl
plain_again (fin s (suc m) e) = refl

-- ---- the level
module _ (db : List Float) (i : ℕ) where
  abbrev around : List Float
  around = five_around (map clean db) i

  -- before a zero loses its sign
  abbrev quotient : Float
  quotient = div binary32 (sum_of around) (of_int binary32 (pos (length around)))

  pub level_plain : plain_zero (level_at db i) ≡ level_at db i
  unfolding level_at
  level_plain = plain_again quotient

  pub no_minus_zero : (e : ℤ) → level_at db i ≡ fin true 0 e → ⊥
  no_minus_zero e h = let z : true ≡ false = cc (level_plain, ap plain_zero h) in absurd (true≢false z)

  module _ (h : i < length db) where
    size : (0 < length around) × (length around ≤ 5)
    size = window_size (map clean db) i (rw (length-map db clean) h)

    pub level_number : is_nan (level_at db i) ≡ false
    unfolding level_at
    level_number =
        let z : is_nan zero_f ≡ false = unfold is_nan in refl in
        let s : is_nan (sum_of around) ≡ false = sum_number zero_f around z (in_window (λ x. finite x ≡ true) (map clean db) (i - 2) (min (i + 3) (length (map clean db))) (all_clean db)) in
        plain_number quotient (div_whole_number binary32 (sum_of around) (length around) size.0 (omega (arith, size.1)) s)

    pub level_within : (k : ℕ) → 100 ≤ k → k * 5 ≤ 2 ^ 24 → Each (λ d. finite d ≡ true → Within k d) db → Within k (level_at db i)
    unfolding level_at
    level_within k low high p =
        let n = length around in
        let few : k * n ≤ k * 5 = mul-le-mul_left k size.1 in
        let s : Within (0 + k * n) (sum_of around) = sum_within zero_f around 0 k (omega arith) (omega arith) (in_window (Within k) (map clean db) (i - 2) (min (i + 3) (length (map clean db))) (all_within k low db p)) in
        plain_within k quotient (div_within binary32 (sum_of around) k n size.0 (omega (arith, size.1)) (omega arith) (subst (λ (z : ℕ). Within z (sum_of around)) (zero-add (k * n)) s))
