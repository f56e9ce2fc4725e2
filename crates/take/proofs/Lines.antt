-- The lines of lists, one by one: what the frames from i on still have to say is the line of frame i and then the rest. Assumes nothing.
use Prim.Native.Nat.{ℕ, ◌+◌, ◌-◌, ◌≤◌, ◌<◌}
use native.Mathlib.Omega.{arith}
use mathlib.Core.Path.{◌≡◌, refl, sym, ap, ap₂, ◌∙◌}
use mathlib.Core.Bool.{Bool, true, false, cond}
use mathlib.Core.List.{List, [], ◌∷◌, ◌++◌, flat_map}
use mathlib.Core.Logic.{◌⊎◌, ⊎_elim}
use lib.ListN.{length, get_or, drop, drop_of_length-le, length-drop}
use lib.Ieee.{Float, nan}
use Rattle.lists.specs.Results.{keep, cons_if}
use Rattle.lists.proofs.Fill.{drop_step, keep_step, keep_over}
use Rattle.take.proofs.Writing.{write_next, write_end}
use Rattle.take.specs.Listing.{pitch_word, mark_line, mark_lines, repitched, pitch_lines}

-- a text for each entry
module _ (f : ℕ → List ℕ) where
  pub texts_step : (xs : List ℕ) (i : ℕ) → i < length xs → flat_map f (drop i xs) ≡ f (get_or xs i 0) ++ flat_map f (drop (i + 1) xs)
  unfolding flat_map
  texts_step xs i h = rw (drop_step xs i 0 h)

  pub texts_over : (xs : List ℕ) (i : ℕ) → length xs ≤ i → flat_map f (drop i xs) ≡ []
  unfolding flat_map
  texts_over xs i h = rw (drop_of_length-le xs h)

  kept_step : (b : Bool) (i : ℕ) (is : List ℕ) → flat_map f (cons_if b i is) ≡ cond b (f i) [] ++ flat_map f is
  unfolding flat_map
  kept_step true i is = refl
  kept_step false i is = refl

-- a line for each frame with its strength
pub marks_step : (w : List ℕ) (i : ℕ) (x : Float) {is is' : List ℕ} {xs xs' : List Float} → is ≡ i ∷ is' → xs ≡ x ∷ xs' → mark_lines w is xs ≡ mark_line w i x ++ mark_lines w is' xs'
unfolding mark_lines
marks_step w i x e h = ap₂ (mark_lines w) e h

pub marks_over : (w is : List ℕ) (xs : List Float) → (is ≡ []) ⊎ (xs ≡ []) → mark_lines w is xs ≡ []
unfolding mark_lines
marks_over w [] xs h = refl
marks_over w (i ∷ is) [] h = refl
marks_over w (i ∷ is) (x ∷ xs) h = ⊎_elim (λ e. absurd (omega (arith, ap length e))) (λ e. absurd (omega (arith, ap length e))) h

-- the lines of the changed pitches from frame i on
module _ (given left : List Float) where
  abbrev pub pitches_from : ℕ → List ℕ
  pitches_from i = flat_map (λ (k : ℕ). mark_line pitch_word k (get_or left k nan)) (keep (λ (k : ℕ). repitched (get_or given k nan) (get_or left k nan)) i (length left - i))

  pub pitches_start : pitch_lines given left ≡ pitches_from 0
  unfolding pitch_lines
  pitches_start = let e : length left - 0 ≡ length left = omega arith in rw e

  pub pitches_step : (i : ℕ) → i < length left → pitches_from i ≡ cond (repitched (get_or given i nan) (get_or left i nan)) (mark_line pitch_word i (get_or left i nan)) [] ++ pitches_from (i + 1)
  pitches_step i h =
      ap (flat_map (λ (k : ℕ). mark_line pitch_word k (get_or left k nan))) (keep_step (λ (k : ℕ). repitched (get_or given k nan) (get_or left k nan)) i (length left) h)
      ∙ kept_step (λ (k : ℕ). mark_line pitch_word k (get_or left k nan)) (repitched (get_or given i nan) (get_or left i nan)) i _

  pub pitches_over : (i : ℕ) → length left ≤ i → pitches_from i ≡ []
  unfolding flat_map
  pitches_over i h = ap (flat_map (λ (k : ℕ). mark_line pitch_word k (get_or left k nan))) (keep_over (λ (k : ℕ). repitched (get_or given k nan) (get_or left k nan)) i (length left) h)

-- the loop over them: the frames from k on are left, and the page and their lines make up the whole
pub record Listing (given left : List Float) (old : List ℕ) (k : ℕ) (gs ls : List Float) (page : List ℕ) : Type 0 where
  pub as_given : gs ≡ drop k given
  pub as_left : ls ≡ drop k left
  pub text : page ++ pitches_from given left k ≡ old ++ pitch_lines given left

-- the entry at the front of what is left
front_at : (xs : List Float) (k : ℕ) (x : Float) (rest : List Float) → x ∷ rest ≡ drop k xs → (k < length xs) × (get_or xs k nan ≡ x) × (rest ≡ drop (k + 1) xs)
front_at xs k x rest e =
    let h : k < length xs = omega (arith, ap length e, length-drop k xs) in
    let p : x ∷ rest ≡ get_or xs k nan ∷ drop (k + 1) xs = e ∙ drop_step xs k nan h in
    (h, cc, cc)

pub listing_start : {given left : List Float} (old : List ℕ) {k : ℕ} {gs ls : List Float} → k ≡ 0 → gs ≡ given → ls ≡ left → Listing given left old k gs ls old
listing_start {given} {left} old e g l = rw e (record { as_given = g; as_left = l; text = ap (λ (x : List ℕ). old ++ x) (sym (pitches_start given left)) })

module _ {given left : List Float} {old : List ℕ} {k : ℕ} {gs ls : List Float} {page : List ℕ} (l : Listing given left old k gs ls page) where
  module _ {i : ℕ} (x y : Float) (gs' ls' : List Float) (here : i ≡ k) (e : gs ≡ x ∷ gs') (f : ls ≡ y ∷ ls') where
    pub listing_step : (k < length left) × (pitches_from given left k ≡ cond (repitched x y) (mark_line pitch_word i y) [] ++ pitches_from given left (k + 1))
    listing_step =
        let g = front_at given k x gs' (sym e ∙ l.as_given) in
        let h = front_at left k y ls' (sym f ∙ l.as_left) in
        (h.0, rw (here, ← g.1, ← h.1) (pitches_step given left k h.0))

    pub listing_next : {k' : ℕ} {page' : List ℕ} → k' ≡ k + 1 → page' ≡ page ++ cond (repitched x y) (mark_line pitch_word i y) [] → Listing given left old k' gs' ls' page'
    listing_next more p =
        rw more
        (record {
          as_given = (front_at given k x gs' (sym e ∙ l.as_given)).2;
          as_left = (front_at left k y ls' (sym f ∙ l.as_left)).2;
          text = write_next page (cond (repitched x y) (mark_line pitch_word i y) []) (pitches_from given left (k + 1)) l.text listing_step.1 p;
        })

  pub listing_end : (gs ≡ []) ⊎ (ls ≡ []) → length given ≡ length left → page ≡ old ++ pitch_lines given left
  listing_end over same = write_end page l.text (pitches_over given left k (⊎_elim (λ e. omega (arith, ap length (sym e ∙ l.as_given), length-drop k given)) (λ e. omega (arith, ap length (sym e ∙ l.as_left), length-drop k left)) over))
