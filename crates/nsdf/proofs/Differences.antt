-- Running sums of squares, one sample at a time, and the power of a lag as differences of them. Assumes nothing.
use mathlib.Core.Path.{◌≡◌, refl, sym, ap, ◌∙◌, subst}
use Prim.Native.Nat.{ℕ, zero, suc, ◌+◌, ◌-◌, ◌*◌, ◌^◌, ◌≤◌, ◌<◌, zero-le}
use native.Mathlib.Nat.{zero-add, le_of_suc-le-suc, not-suc-le-zero, eq-or-lt_of_le}
use native.Mathlib.Numerals.{add-one}
use native.Mathlib.Omega.{arith}
use mathlib.Core.List.{List, [], ◌∷◌, ◌++◌}
use mathlib.Core.Logic.{◌⊎◌, inl, inr}
use lib.IntN.{ℤ, pos}
use lib.ListN.{length, get_or, take, drop, set, length-drop, length-set, replicate}
use lib.Seq.{take-suc, take-length, get_or-set_same, get_or-set_other}
use Rattle.nsdf.specs.Nsdf.{power, square}
use Rattle.nsdf.specs.Running.{squares, Running}

-- ---- the squares of a list in two parts

squares_append : (xs ys : List ℤ) → squares (xs ++ ys) ≡ squares xs + squares ys
unfolding squares
squares_append [] ys = sym (zero-add (squares ys))
squares_append (x ∷ xs) ys = step (square x) (squares xs) (squares ys) (squares (xs ++ ys)) (squares_append xs ys)
  where
    step : (a b c d : ℕ) → d ≡ b + c → a + d ≡ a + b + c
    step a b c d e = omega arith

squares_more : (w : List ℤ) (i : ℕ) → i < length w → squares (take (i + 1) w) ≡ squares (take i w) + square (get_or w i (pos 0))
unfolding squares
squares_more w i h =
    ap (λ (n : ℕ). squares (take n w)) (add-one i) ∙ ap squares (take-suc w i (pos 0) h) ∙ squares_append (take i w) (get_or w i (pos 0) ∷ [])
    ∙ tail (squares (take i w)) (square (get_or w i (pos 0)))
  where
    tail : (a b : ℕ) → a + (b + 0) ≡ a + b
    tail a b = omega arith

squares_drop : (w : List ℤ) (i : ℕ) → squares (take i w) + squares (drop i w) ≡ squares w
unfolding squares
squares_drop w zero = zero-add (squares w)
squares_drop [] (suc i) = refl
squares_drop (x ∷ w) (suc i) = step (square x) (squares (take i w)) (squares (drop i w)) (squares w) (squares_drop w i)
  where
    step : (a b c d : ℕ) → b + c ≡ d → a + b + c ≡ a + d
    step a b c d e = omega arith

-- of the pairs, the squares of the first members and those of the second
power_split : (xs ys : List ℤ) → length ys ≤ length xs → power xs ys ≡ squares (take (length ys) xs) + squares ys
unfolding squares power
power_split [] [] h = refl
power_split [] (y ∷ ys) h = absurd (not-suc-le-zero h)
power_split (x ∷ xs) [] h = refl
power_split (x ∷ xs) (y ∷ ys) h = step (square x) (square y) (squares (take (length ys) xs)) (squares ys) (power xs ys) (power_split xs ys (le_of_suc-le-suc h))
  where
    step : (a b c d e : ℕ) → e ≡ c + d → a + b + e ≡ a + c + (b + d)
    step a b c d e h = omega arith

-- ---- the power of a lag

module _ (w : List ℤ) (sq : List ℕ) (lag : ℕ) (run : Running w sq) (more : lag < length w) where
  whole : get_or sq (length w) 0 ≡ squares w
  whole = run.sums (length w) (omega arith) ∙ ap squares (take-length w)

  at_lag : get_or sq lag 0 ≡ squares (take lag w)
  at_lag = run.sums lag (omega arith)

  before_lag : get_or sq (length w - lag) 0 ≡ squares (take (length w - lag) w)
  before_lag = run.sums (length w - lag) (omega arith)

  pub not_less : get_or sq lag 0 ≤ get_or sq (length w) 0
  not_less = omega (arith, whole, at_lag, squares_drop w lag)

  pub power_is : get_or sq (length w - lag) 0 + (get_or sq (length w) 0 - get_or sq lag 0) ≡ power w (drop lag w)
  power_is =
      sum (get_or sq (length w - lag) 0) (get_or sq lag 0) (get_or sq (length w) 0) (squares (take (length w - lag) w)) (squares (take lag w)) (squares (drop lag w)) (squares w)
      before_lag at_lag whole (squares_drop w lag)
      ∙ ap (λ (n : ℕ). squares (take n w) + squares (drop lag w)) (sym (length-drop lag w))
      ∙ sym (power_split w (drop lag w) (subst (λ (n : ℕ). n ≤ length w) (sym (length-drop lag w)) (omega arith)))
    where
      sum : (a b c p q s t : ℕ) → a ≡ p → b ≡ q → c ≡ t → q + s ≡ t → a + (c - b) ≡ p + s
      sum a b c p q s t e f g h = omega arith

  pub power_fits : get_or sq (length w - lag) 0 + (get_or sq (length w) 0 - get_or sq lag 0) ≤ 2 ^ 40
  power_fits = omega (arith, whole, before_lag, squares_drop w (length w - lag), run.small)

-- ---- the loop: after i samples the sums up to i are there, and `sum` is the last of them

abbrev pub Filled : List ℤ → List ℕ → ℕ → ℕ → Type 0
Filled w sq sum i =
    (length sq ≡ 513)
    × (sum ≤ 1073741824 * i)
    × (sum ≡ squares (take i w))
    × ((j : ℕ) → j ≤ i → get_or sq j 0 ≡ squares (take j w))

pub fill_first : (w : List ℤ) → Filled w (replicate 513 0) 0 0
unfolding squares
fill_first w = (refl, zero-le, refl, λ j h. subst (λ (n : ℕ). get_or (replicate 513 0) n 0 ≡ squares (take n w)) (none j h) refl)
  where
    none : (j : ℕ) → j ≤ 0 → 0 ≡ j
    none j h = omega arith

pub fill_turn : (w : List ℤ) (sq : List ℕ) (sum i v : ℕ) → length w ≤ 512 → Filled w sq sum i → i < length w → v ≡ square (get_or w i (pos 0)) → v ≤ 1073741824
    → Filled w (set sq (i + 1) (sum + v)) (sum + v) (i + 1)
fill_turn w sq sum i v short f h e small =
    let now : sum + v ≡ squares (take (i + 1) w) = ap (λ (n : ℕ). n + v) f.2 ∙ ap (λ (n : ℕ). squares (take i w) + n) e ∙ sym (squares_more w i h) in (
      length-set sq (i + 1) (sum + v) ∙ f.0,
      omega arith,
      now,
      λ j g. go now j (eq-or-lt_of_le g),
    )
  where
    fit : i + 1 < length sq
    fit = omega arith

    less : (j : ℕ) → j < i + 1 → j ≤ i
    less j g = omega arith

    differ : (j : ℕ) → j < i + 1 → j ≡ i + 1 → ⊥
    differ j g z = omega arith

    go : sum + v ≡ squares (take (i + 1) w) → (j : ℕ) → (j ≡ i + 1) ⊎ (j < i + 1) → get_or (set sq (i + 1) (sum + v)) j 0 ≡ squares (take j w)
    go now j (inl g) = rw g (get_or-set_same sq (i + 1) (sum + v) 0 fit ∙ now)
    go now j (inr g) = get_or-set_other sq (i + 1) j (sum + v) 0 (differ j g) ∙ f.3 j (less j g)
