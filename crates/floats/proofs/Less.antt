-- The order of whole numbers, and the strict order of floats: what is below something that is below a third is below the third, and what is not below a number is no lower than it.
-- Assumes nothing.
use Prim.Native.Nat.{ℕ, ◌+◌, ◌*◌, ◌≤◌, ◌<◌}
use native.Mathlib.Nat.{le_refl, mul-lt-mul_of_pos_right, mul-le-mul_right, mul_right_comm, add-mul, zero-mul}
use native.Mathlib.Omega.{arith}
use mathlib.Core.Path.{◌≡◌, refl, sym, ap, ap₂, ◌∙◌}
use mathlib.Core.Bool.{Bool, true, false, true≢false, false≢true}
use mathlib.Core.Logic.{◌⊎◌, inl, inr}
use borrow.Author.Tests.{leb-true, leb-false, ltb-true, ltb-false, lt-ltb, le-ltb}
use lib.Dec.{leb, ltb}
use lib.IntN.{ℤ}
use lib.Ieee.{Float, nan, inf, fin, up, down, below, lt, is_nan}
use lib.Ieee.Fits.{down_pos}

-- ---- whole numbers
pub le_or_lt : (a b : ℕ) → (a ≤ b) ⊎ (b < a)
le_or_lt a b = go (leb a b) refl
  where
    go : (t : Bool) → leb a b ≡ t → (a ≤ b) ⊎ (b < a)
    go true e = inl (leb-true a b e)
    go false e = inr (leb-false a b e)

-- both are k times as large
pub ltb_scale : (a b k : ℕ) → 0 < k → ltb (a * k) (b * k) ≡ ltb a b
ltb_scale a b k h = go (ltb a b) refl
  where
    go : (t : Bool) → ltb a b ≡ t → ltb (a * k) (b * k) ≡ ltb a b
    go true e = lt-ltb (a * k) (b * k) (mul-lt-mul_of_pos_right (ltb-true a b e) h) ∙ sym e
    go false e = le-ltb (a * k) (b * k) (mul-le-mul_right k (ltb-false a b e)) ∙ sym e

-- ---- signs and sizes
below_trans : (s : Bool) (a : ℕ) (t : Bool) (b : ℕ) (u : Bool) (c : ℕ) → below s a t b ≡ true → below t b u c ≡ true → below s a u c ≡ true
below_trans false a false b false c p q = lt-ltb a c (omega (arith, ltb-true a b p, ltb-true b c q))
below_trans false a false b true c p q = absurd (false≢true q)
below_trans false a true b u c p q = absurd (false≢true p)
below_trans true a false b false c p q = lt-ltb 0 (a + c) (omega (arith, ltb-true b c q))
below_trans true a false b true c p q = absurd (false≢true q)
below_trans true a true b false c p q = lt-ltb 0 (a + c) (omega (arith, ltb-true b a p))
below_trans true a true b true c p q = lt-ltb c a (omega (arith, ltb-true b a p, ltb-true c b q))

below_from : (s : Bool) (a : ℕ) (t : Bool) (b : ℕ) (u : Bool) (c : ℕ) → below s a t b ≡ false → below s a u c ≡ true → below t b u c ≡ true
below_from false a false b false c p q = lt-ltb b c (omega (arith, ltb-false a b p, ltb-true a c q))
below_from false a t b true c p q = absurd (false≢true q)
below_from false a true b false c p q = lt-ltb 0 (b + c) (omega (arith, ltb-true a c q))
below_from true a false b false c p q = lt-ltb b c (omega (arith, ltb-false 0 (a + b) p, ltb-true 0 (a + c) q))
below_from true a false b true c p q = absurd (omega (arith, ltb-false 0 (a + b) p, ltb-true c a q))
below_from true a true b false c p q = lt-ltb 0 (b + c) (omega (arith, ltb-false b a p, ltb-true 0 (a + c) q))
below_from true a true b true c p q = lt-ltb c b (omega (arith, ltb-false b a p, ltb-true c a q))

below_scaled : (s : Bool) (a : ℕ) (t : Bool) (b k : ℕ) → 0 < k → below s a t b ≡ below s (a * k) t (b * k)
below_scaled false a false b k h = sym (ltb_scale a b k h)
below_scaled false a true b k h = refl
below_scaled true a false b k h = sym (ap₂ ltb (sym (zero-mul k)) (sym (add-mul a b k)) ∙ ltb_scale 0 (a + b) k h)
below_scaled true a true b k h = sym (ltb_scale b a k h)

-- ---- floats
-- three numbers over one denominator
module _ (s : Bool) (m : ℕ) (e : ℤ) (t : Bool) (n : ℕ) (d : ℤ) (k : ℕ) (h : 0 < k) where
  over : lt (fin s m e) (fin t n d) ≡ below s (m * up e * down d * k) t (n * up d * down e * k)
  unfolding lt
  over = below_scaled s (m * up e * down d) t (n * up d * down e) k h

-- lt x y, lt y z and lt x z of three finite numbers, each as a comparison over the product of their denominators
module _ (s : Bool) (m : ℕ) (e : ℤ) (t : Bool) (n : ℕ) (d : ℤ) (u : Bool) (o : ℕ) (g : ℤ) where
  abbrev A : ℕ
  A = m * up e * down d * down g

  abbrev B : ℕ
  B = n * up d * down e * down g

  abbrev C : ℕ
  C = o * up g * down d * down e

  first_two : lt (fin s m e) (fin t n d) ≡ below s A t B
  first_two = over s m e t n d (down g) (down_pos g)

  last_two : lt (fin t n d) (fin u o g) ≡ below t B u C
  last_two = over t n d u o g (down e) (down_pos e) ∙ ap (λ (b : ℕ). below t b u C) (mul_right_comm (n * up d) (down g) (down e))

  outer_two : lt (fin s m e) (fin u o g) ≡ below s A u C
  outer_two = over s m e u o g (down d) (down_pos d) ∙ ap₂ (λ (a c : ℕ). below s a u c) (mul_right_comm (m * up e) (down g) (down d)) (mul_right_comm (o * up g) (down e) (down d))

  trans : lt (fin s m e) (fin t n d) ≡ true → lt (fin t n d) (fin u o g) ≡ true → lt (fin s m e) (fin u o g) ≡ true
  trans p q = outer_two ∙ below_trans s A t B u C (sym first_two ∙ p) (sym last_two ∙ q)

  from : lt (fin s m e) (fin t n d) ≡ false → lt (fin s m e) (fin u o g) ≡ true → lt (fin t n d) (fin u o g) ≡ true
  from p q = last_two ∙ below_from s A t B u C (sym first_two ∙ p) (sym outer_two ∙ q)

pub lt_trans : (x y z : Float) → lt x y ≡ true → lt y z ≡ true → lt x z ≡ true
unfolding lt
lt_trans nan y z p q = absurd (false≢true p)
lt_trans (inf s) nan z p q = absurd (false≢true p)
lt_trans (inf s) (inf t) nan p q = absurd (false≢true q)
lt_trans (inf true) (inf true) (inf u) p q = absurd (false≢true p)
lt_trans (inf true) (inf false) (inf u) p q = absurd (false≢true q)
lt_trans (inf false) (inf t) (inf u) p q = absurd (false≢true p)
lt_trans (inf true) (inf t) (fin u o g) p q = refl
lt_trans (inf false) (inf t) (fin u o g) p q = absurd (false≢true p)
lt_trans (inf s) (fin t n d) nan p q = absurd (false≢true q)
lt_trans (inf s) (fin t n d) (inf u) p q = rw p q
lt_trans (inf s) (fin t n d) (fin u o g) p q = p
lt_trans (fin s m e) nan z p q = absurd (false≢true p)
lt_trans (fin s m e) (inf true) z p q = absurd (false≢true p)
lt_trans (fin s m e) (inf false) nan p q = absurd (false≢true q)
lt_trans (fin s m e) (inf false) (inf u) p q = absurd (false≢true q)
lt_trans (fin s m e) (inf false) (fin u o g) p q = absurd (false≢true q)
lt_trans (fin s m e) (fin t n d) nan p q = absurd (false≢true q)
lt_trans (fin s m e) (fin t n d) (inf u) p q = q
lt_trans (fin s m e) (fin t n d) (fin u o g) p q = trans s m e t n d u o g p q

-- y is a number, and x is not below it
pub lt_from : (x y z : Float) → is_nan y ≡ false → lt x y ≡ false → lt x z ≡ true → lt y z ≡ true
unfolding lt is_nan
lt_from nan y z h p q = absurd (false≢true q)
lt_from (inf s) nan z h p q = absurd (true≢false h)
lt_from (fin s m e) nan z h p q = absurd (true≢false h)
lt_from (inf s) (inf t) nan h p q = absurd (false≢true q)
lt_from (inf false) (inf t) (inf u) h p q = absurd (false≢true q)
lt_from (inf true) (inf true) (inf u) h p q = q
lt_from (inf true) (inf false) (inf u) h p q = absurd (true≢false p)
lt_from (inf false) (inf t) (fin u o g) h p q = absurd (false≢true q)
lt_from (inf true) (inf true) (fin u o g) h p q = refl
lt_from (inf true) (inf false) (fin u o g) h p q = absurd (true≢false p)
lt_from (inf false) (fin t n d) nan h p q = absurd (false≢true q)
lt_from (inf false) (fin t n d) (inf u) h p q = absurd (false≢true q)
lt_from (inf false) (fin t n d) (fin u o g) h p q = absurd (false≢true q)
lt_from (inf true) (fin t n d) z h p q = absurd (true≢false p)
lt_from (fin s m e) (inf t) nan h p q = absurd (false≢true q)
lt_from (fin s m e) (inf true) (inf u) h p q = q
lt_from (fin s m e) (inf false) (inf u) h p q = absurd (true≢false p)
lt_from (fin s m e) (inf true) (fin u o g) h p q = refl
lt_from (fin s m e) (inf false) (fin u o g) h p q = absurd (true≢false p)
lt_from (fin s m e) (fin t n d) nan h p q = absurd (false≢true q)
lt_from (fin s m e) (fin t n d) (inf u) h p q = q
lt_from (fin s m e) (fin t n d) (fin u o g) h p q = from s m e t n d u o g p q

pub lt_itself : (x : Float) → lt x x ≡ false
unfolding lt
lt_itself nan = refl
lt_itself (inf true) = refl
lt_itself (inf false) = refl
lt_itself (fin true m e) = le-ltb (m * up e * down e) (m * up e * down e) (le_refl (m * up e * down e))
lt_itself (fin false m e) = le-ltb (m * up e * down e) (m * up e * down e) (le_refl (m * up e * down e))

-- what is compared with success is a number
pub lt_left : (x y : Float) → lt x y ≡ true → is_nan x ≡ false
unfolding lt is_nan
lt_left nan y p = absurd (false≢true p)
lt_left (inf s) y p = refl
lt_left (fin s m e) y p = refl

pub lt_right : (x y : Float) → lt x y ≡ true → is_nan y ≡ false
unfolding lt is_nan
lt_right nan y p = absurd (false≢true p)
lt_right (inf s) nan p = absurd (false≢true p)
lt_right (fin s m e) nan p = absurd (false≢true p)
lt_right (inf s) (inf t) p = refl
lt_right (inf s) (fin t n d) p = refl
lt_right (fin s m e) (inf t) p = refl
lt_right (fin s m e) (fin t n d) p = refl
