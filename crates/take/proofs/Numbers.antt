-- Digits of a number: how many they are, that none is a capital, and that the library writes them. Assumes nothing.
use Prim.Native.Nat.{ℕ, zero, suc, ◌*◌, ◌/◌, ◌%◌, ◌^◌, ◌≤◌, ◌<◌}
use native.Mathlib.Omega.{arith}
use native.Mathlib.Nat.{pow-suc}
use mathlib.Core.Path.{◌≡◌, refl, ap, ap₂, ◌∙◌}
use mathlib.Core.Bool.{Bool, true, false, ◌&&◌}
use mathlib.Core.List.{List, [], ◌∷◌, ◌++◌, map, append_assoc, append-nil}
use lib.Dec.{ltb, eqb}
use borrow.Author.Count.{below_more}
use Rattle.lists.proofs.Tests.{and_cases}
use borrow.Author.Tests.{lt-ltb, le-ltb, ltb-true, ltb-false, eq-eqb, ne_eqb, eqb-true}
use lib.ListN.{length, get_or, length-append}
use Rattle.std.specs.Char.{to_ascii_lowercase}
use Rattle.std.proofs.lemmas.List.{map-append}
use Rattle.std.specs.Fmt.{digits, digits_onto, digit_glyph}
use Rattle.std.specs.Int.{w32, to_be_bytes}
use Rattle.hex.specs.Hex.{encode_with, encode_lower, lower_digits}
use Rattle.take.specs.Text.{glyph, hex_digits, hex, decimal_in, decimal}

pub hex_length : (k n : ℕ) → length (hex_digits k n) ≡ k
unfolding hex_digits
hex_length zero n = refl
hex_length (suc k) n = length-append (hex_digits k (n / 16)) (glyph (n % 16) ∷ []) ∙ omega (arith, hex_length k (n / 16))

pub tenth : (n m : ℕ) → n < m * 10 → n / 10 < m
tenth n m h = omega arith

-- the library's digits, before those that it has already
one_digit : (f k n : ℕ) (acc : List ℕ) → n < 10 → digits_onto (suc f) 10 false n acc ≡ decimal_in (suc k) n ++ acc
unfolding decimal_in glyph
one_digit f k n acc h =
    let z : n / 10 ≡ 0 = omega arith in
    let m : n % 10 ≡ n = omega arith in
    rw (eq-eqb (n / 10) 0 z, m, lt-ltb n 10 h)

glyph_same : (d : ℕ) → digit_glyph false d ≡ glyph d
unfolding glyph
glyph_same d = refl

more_digits : (f k n : ℕ) (acc : List ℕ) → 10 ≤ n → digits_onto f 10 false (n / 10) (glyph (n % 10) ∷ acc) ≡ decimal_in k (n / 10) ++ (glyph (n % 10) ∷ acc) → digits_onto (suc f) 10 false n acc ≡ decimal_in (suc k) n ++ acc
unfolding decimal_in
more_digits f k n acc h e =
    let z : n / 10 ≡ 0 → ⊥ = λ x. absurd (omega (arith, x)) in
    rw (ne_eqb (n / 10) 0 z, le-ltb n 10 h, glyph_same (n % 10), append_assoc) e

by_size : (f k n : ℕ) (acc : List ℕ) (b : Bool) → ltb n 10 ≡ b → digits_onto f 10 false (n / 10) (glyph (n % 10) ∷ acc) ≡ decimal_in k (n / 10) ++ (glyph (n % 10) ∷ acc) → digits_onto (suc f) 10 false n acc ≡ decimal_in (suc k) n ++ acc
by_size f k n acc true t e = one_digit f k n acc (ltb-true n 10 t)
by_size f k n acc false t e = more_digits f k n acc (ltb-false n 10 t) e

onto : (f k n : ℕ) (acc : List ℕ) → k ≤ f → n < 10 ^ suc k → digits_onto (suc f) 10 false n acc ≡ decimal_in (suc k) n ++ acc
onto f zero n acc l h = one_digit f 0 n acc h
onto zero (suc k) n acc l h = absurd (omega (arith, l))
onto (suc f) (suc k) n acc l h = by_size (suc f) (suc k) n acc (ltb n 10) refl (onto f k (n / 10) (glyph (n % 10) ∷ acc) (omega (arith, l)) (tenth n (10 ^ suc k) (rw (pow-suc 10 (suc k)) at h)))

pub decimal_same : (n : ℕ) → n < 4294967296 → digits 10 false n ≡ decimal n
unfolding digits
decimal_same n h = onto 63 9 n [] (omega arith) (omega arith) ∙ append-nil (decimal n)

-- a test of the numbers below k
below : (ℕ → Bool) → ℕ → Bool
below t zero = true
below t (suc k) = t k && below t k

below_each : (t : ℕ → Bool) (k : ℕ) → below t k ≡ true → (d : ℕ) → d < k → t d ≡ true
unfolding below
below_each t zero e d h = absurd (omega (arith, h))
below_each t (suc k) e d h =
    let p = and_cases (t k) (below t k) e in
    below_more (λ (i : ℕ). t i ≡ true) k (below_each t k p.1) p.0 d (omega (arith, h))

-- no digit is a capital
small : (d : ℕ) → d < 16 → to_ascii_lowercase (glyph d) ≡ glyph d
unfolding glyph below
small d h = eqb-true _ _ (below_each (λ (k : ℕ). eqb (to_ascii_lowercase (glyph k)) (glyph k)) 16 refl d h)

pub hex_small : (k n : ℕ) → map to_ascii_lowercase (hex_digits k n) ≡ hex_digits k n
unfolding hex_digits
hex_small zero n = refl
hex_small (suc k) n =
    map-append to_ascii_lowercase (hex_digits k (n / 16)) (glyph (n % 16) ∷ [])
    ∙ ap₂ ◌++◌ (hex_small k (n / 16)) (ap (λ (g : ℕ). g ∷ []) (small (n % 16) (omega arith)))

-- the library's digits of a byte
half_same : (d : ℕ) → d < 16 → get_or lower_digits d 0 ≡ glyph d
unfolding glyph below
half_same d h = eqb-true _ _ (below_each (λ (k : ℕ). eqb (get_or lower_digits k 0) (glyph k)) 16 refl d h)

pub hex_same : (n : ℕ) → encode_lower (to_be_bytes w32 n) ≡ hex n
unfolding encode_with hex_digits
hex_same n =
    let d0 : get_or lower_digits (n % 256 % 16) 0 ≡ glyph (n % 16) = half_same _ (omega arith) ∙ ap glyph (omega arith) in
    let d1 : get_or lower_digits (n % 256 / 16) 0 ≡ glyph (n / 16 % 16) = half_same _ (omega arith) ∙ ap glyph (omega arith) in
    let d2 : get_or lower_digits (n / 256 % 256 % 16) 0 ≡ glyph (n / 16 / 16 % 16) = half_same _ (omega arith) ∙ ap glyph (omega arith) in
    let d3 : get_or lower_digits (n / 256 % 256 / 16) 0 ≡ glyph (n / 16 / 16 / 16 % 16) = half_same _ (omega arith) ∙ ap glyph (omega arith) in
    let d4 : get_or lower_digits (n / 65536 % 256 % 16) 0 ≡ glyph (n / 16 / 16 / 16 / 16 % 16) = half_same _ (omega arith) ∙ ap glyph (omega arith) in
    let d5 : get_or lower_digits (n / 65536 % 256 / 16) 0 ≡ glyph (n / 16 / 16 / 16 / 16 / 16 % 16) = half_same _ (omega arith) ∙ ap glyph (omega arith) in
    let d6 : get_or lower_digits (n / 16777216 % 256 % 16) 0 ≡ glyph (n / 16 / 16 / 16 / 16 / 16 / 16 % 16) = half_same _ (omega arith) ∙ ap glyph (omega arith) in
    let d7 : get_or lower_digits (n / 16777216 % 256 / 16) 0 ≡ glyph (n / 16 / 16 / 16 / 16 / 16 / 16 / 16 % 16) = half_same _ (omega arith) ∙ ap glyph (omega arith) in
    cc
