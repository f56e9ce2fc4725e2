-- Sums and quotients that are no NaN, over the format: a number and a finite one added; a quotient by what is not 0, where not both are infinite. Assumes nothing.
use Prim.Native.Nat.{ℕ, zero, suc, ◌+◌, ◌-◌, ◌*◌, ◌^◌, ◌≤◌, ◌<◌}
use mathlib.Core.Path.{◌≡◌, refl, sym, ◌∙◌}
use mathlib.Core.Bool.{Bool, true, false, true≢false, false≢true, ◌&&◌, ◌||◌, beq, cond}
use lib.Dec.{T, ltb, eqb-suc-zero}
use lib.IntN.{pos}
use lib.Ieee.{Float, nan, inf, fin, Format, prec, up, down, round, sum, add, div, eq, of_int, is_nan, unlike}
use lib.Ieee.Back.{round_whole}
use lib.Ieee.Bits.{is_true, is_false}
use lib.Ieee.Positive.{positive, positive_of_value, positive-finite}
use lib.Ieee.Scale.{finite}
use Rattle.floats.specs.Plain.{zero_f}
use Rattle.floats.proofs.Rounded.{round_no_nan}
use Rattle.floats.proofs.Zeros.{zero_equal, positive_not_zero}

pub finite_number : (x : Float) → finite x ≡ true → is_nan x ≡ false
unfolding is_nan
finite_number nan h = absurd (false≢true h)
finite_number (inf s) h = refl
finite_number (fin s m e) h = refl

module _ (f : Format) where
  round_number : (s : Bool) (a c : ℕ) → is_nan (round f s a c) ≡ false
  round_number s a c = is_false (is_nan (round f s a c)) (round_no_nan f s a c)

  sum_number : (s : Bool) (a : ℕ) (t : Bool) (b c : ℕ) → is_nan (sum f s a t b c) ≡ false
  unfolding sum
  sum_number s a t b c = go (beq s t) (ltb a b)
    where
      go : (x y : Bool) → is_nan (cond x (round f s (a + b) c) (cond y (round f t (b - a) c) (round f (s && ltb b a) (a - b) c))) ≡ false
      go true y = round_number s (a + b) c
      go false true = round_number t (b - a) c
      go false false = round_number (s && ltb b a) (a - b) c

  pub add_number : (x y : Float) → is_nan x ≡ false → finite y ≡ true → is_nan (add f x y) ≡ false
  unfolding add is_nan
  add_number nan y p q = absurd (true≢false p)
  add_number (inf s) nan p q = absurd (false≢true q)
  add_number (inf s) (inf t) p q = absurd (false≢true q)
  add_number (inf s) (fin t n d) p q = refl
  add_number (fin s m e) nan p q = absurd (false≢true q)
  add_number (fin s m e) (inf t) p q = absurd (false≢true q)
  add_number (fin s m e) (fin t n d) p q = sum_number s (m * up e * down d) t (n * up d * down e) (down e * down d)

  pub div_number : (x y : Float) → is_nan x ≡ false → is_nan y ≡ false → (finite x || finite y) ≡ true → eq y zero_f ≡ false → is_nan (div f x y) ≡ false
  unfolding div is_nan
  div_number nan y p q r h = absurd (true≢false p)
  div_number (inf s) nan p q r h = absurd (true≢false q)
  div_number (inf s) (inf t) p q r h = absurd (false≢true r)
  div_number (inf s) (fin t n d) p q r h = refl
  div_number (fin s m e) nan p q r h = absurd (true≢false q)
  div_number (fin s m e) (inf t) p q r h = refl
  div_number (fin s m e) (fin t zero d) p q r h = absurd (true≢false (sym (zero_equal t d) ∙ h))
  div_number (fin s m e) (fin t (suc n) d) p q r h = rw (eqb-suc-zero n) (round_number (unlike s t) (m * up e * down d) (suc n * up d * down e))

  over_positive : (x y : Float) → T (positive y) → is_nan x ≡ false → is_nan (div f x y) ≡ false
  over_positive x y h p =
      let g : finite y ≡ true = is_true (finite y) (positive-finite y h) in
      div_number x y p (finite_number y g) (either (finite x) g) (positive_not_zero y h)
    where
      either : (b : Bool) {c : Bool} → c ≡ true → (b || c) ≡ true
      either true e = refl
      either false e = e

  -- by a whole number
  pub div_whole_number : (x : Float) (n : ℕ) → 0 < n → n ≤ 2 ^ prec f → is_nan x ≡ false → is_nan (div f x (of_int f (pos n))) ≡ false
  unfolding of_int
  div_whole_number x n h l p = over_positive x (round f false n 1) (positive_of_value (round f false n 1) n 1 (round_whole f false n l) h) p
