-- Values that are written to the frames of a list one by one (`write_turn`, `write_end`), and what is written for a frame of a run (`run_value`). Assumes nothing.
use Prim.Native.Nat.{ℕ, zero, suc, ◌+◌, ◌-◌, ◌≤◌, ◌<◌}
use native.Mathlib.Omega.{arith}
use mathlib.Core.Path.{◌≡◌, refl, sym, ap, ap₂, ◌∙◌, subst}
use mathlib.Core.Bool.{Bool, true, false, cond}
use mathlib.Core.List.{List, [], ◌∷◌, ◌++◌, map, map-append}
use lib.Dec.{T, eqb, ltb}
use lib.ListN.{length, get_or, take, drop, set, length-map, length-drop, drop_of_length-le}
use lib.Seq.{get_or-set_same, get_or-set_other}
use lib.Ieee.{Float, nan, binary32, fits}
use borrow.Author.Tests.{eqb-true, eqb-false, ltb-true, ltb-false}
use Rattle.floats.specs.Total.{total_key, value_of}
use Rattle.floats.proofs.Order.{value_back}
use Rattle.lists.specs.By.{Each}
use Rattle.lists.specs.Marks.{member}
use Rattle.lists.specs.Sorted.{StrictlyRises}
use Rattle.lists.proofs.Fill.{drop_step}
use Rattle.lists.proofs.Entries.{each_map, each_of_map}
use Rattle.lists.proofs.Parts.{take_map, drop_map}
use Rattle.lists.proofs.Members.{strict_few, member_over}
use Rattle.powers.specs.Pitch.{Between}
use Rattle.lists.specs.Frames.{at}
use Rattle.repair.specs.Repair.{last_few, beside, repaired_in}
use Rattle.repair.specs.Places.{around, PitchPlace, key_at, Written}
use Rattle.repair.proofs.Places.{neighbours_at}

-- the voiced frames of a run, two or more, with the places of their pitches
pub record Gathered (pitch : List Float) (frames keys : List ℕ) : Type 0 where
  pub rises : StrictlyRises 0 (length pitch) frames
  pub several : 2 ≤ length frames
  pub pitched : Each (λ i. Between 40 2000 (at pitch i)) frames
  pub places : keys ≡ map (key_at pitch) frames

either : (b : Bool) {x y : Float} → y ≡ x → cond b x y ≡ x
either true e = refl
either false e = e

-- ---- a value for each frame of a list, of which those from place p on are to be written yet
module _ (value : ℕ → Float) (frames : List ℕ) (old : List Float) where
  abbrev pub Writing : ℕ → List Float → Type 0
  Writing p track = (i : ℕ) → cond (member (drop p frames) i) (value i) (get_or track i nan) ≡ cond (member frames i) (value i) (get_or old i nan)

  pub write_turn : (p : ℕ) (track : List Float) (v : Float) → p < length frames → get_or frames p 0 < length track → v ≡ value (get_or frames p 0) → Writing p track → Writing (p + 1) (set track (get_or frames p 0) v)
  unfolding member
  write_turn p track v h l e w i = turn (eqb f i) refl ∙ ap (λ (l : List ℕ). cond (member l i) (value i) (get_or track i nan)) (sym (drop_step frames p 0 h)) ∙ w i
    where
      f : ℕ
      f = get_or frames p 0

      rest : List ℕ
      rest = drop (p + 1) frames

      turn : (b : Bool) → eqb f i ≡ b → cond (member rest i) (value i) (get_or (set track f v) i nan) ≡ cond (member (f ∷ rest) i) (value i) (get_or track i nan)
      turn true q =
          rw q (either (member rest i) (subst (λ (j : ℕ). get_or (set track f v) j nan ≡ value j) (eqb-true f i q) (get_or-set_same track f v nan l ∙ e)))
      turn false q =
          rw (q, get_or-set_other track f i v nan (λ j. eqb-false f i q (sym j)))

  pub write_end : (p : ℕ) (track : List Float) → length frames ≤ p → Writing p track → Written value frames old track
  write_end p track h w i = ap (λ (b : Bool). cond b (value i) (get_or track i nan)) (sym (member_over frames i p h)) ∙ w i

-- ---- the frames of a run, and what is said of their places said of the frames
module _ {A B : Type 0} (g : A → B) where
  map_around : (l : List A) (p : ℕ) → map g (around l p) ≡ around (map g l) p
  map_around l p =
      map-append g (last_few 5 (take p l)) (take 5 (drop (p + 1) l))
      ∙ ap₂ (λ (x y : List B). x ++ y)
      (sym (drop_map g (length (take p l) - 5) (take p l)) ∙ ap₂ (λ (k : ℕ) (z : List B). drop (k - 5) z) (sym (length-map (take p l) g) ∙ ap length (sym (take_map g p l))) (sym (take_map g p l)))
      (sym (take_map g 5 (drop (p + 1) l)) ∙ ap (take 5) (sym (drop_map g (p + 1) l)))

module _ (pitch : List Float) (frames keys : List ℕ) (g : Gathered pitch frames keys) where
  pub keys_length : length keys ≡ length frames
  keys_length = ap length g.places ∙ length-map frames (key_at pitch)

  pub frames_few : length frames ≤ length pitch
  frames_few = omega (arith, strict_few 0 (length pitch) frames (omega arith) g.rises)

  module _ (fit : (i : ℕ) → T (fits binary32 (at pitch i))) where
    back : (i : ℕ) → value_of (key_at pitch i) ≡ at pitch i
    back i = value_back (at pitch i) (fit i)

    pub key_value : (p : ℕ) → p < length frames → at pitch (get_or frames p 0) ≡ value_of (get_or keys p 0)
    key_value p h = sym (ap (λ (l : List ℕ). value_of (get_or l p 0)) g.places ∙ ap value_of (map_at p frames h) ∙ back (get_or frames p 0))
      where
        map_at : (p : ℕ) (l : List ℕ) → p < length l → get_or (map (key_at pitch) l) p 0 ≡ key_at pitch (get_or l p 0)
        map_at p [] h = absurd (omega arith)
        map_at zero (x ∷ l) h = refl
        map_at (suc p) (x ∷ l) h = map_at p l (omega arith)

    pub keys_placed : Each PitchPlace keys
    keys_placed =
        subst (Each PitchPlace) (sym g.places)
        (each_of_map PitchPlace (key_at pitch) frames
        (each_map (λ i. Between 40 2000 (at pitch i)) (λ i. PitchPlace (key_at pitch i)) (λ i b. (ap total_key (back i), subst (Between 40 2000) (sym (back i)) b)) frames g.pitched))

    values_back : (l : List ℕ) → map value_of (map (key_at pitch) l) ≡ map (at pitch) l
    values_back [] = refl
    values_back (i ∷ l) = ap₂ (λ (v : Float) (z : List Float). v ∷ z) (back i) (values_back l)

    pub run_value : (p : ℕ) → p < length frames → beside (at pitch (get_or frames p 0)) (map value_of (around keys p)) ≡ repaired_in pitch frames (get_or frames p 0)
    run_value p h =
        ap (beside (at pitch (get_or frames p 0)))
        (ap (λ (l : List ℕ). map value_of (around l p)) g.places
        ∙ ap (map value_of) (sym (map_around (key_at pitch) frames p))
        ∙ values_back (around frames p)
        ∙ ap (map (at pitch)) (sym (neighbours_at (length pitch) 0 frames p h g.rises)))

-- ---- an entry that stands first in what is left of a list
pub entry_at : (l rest : List ℕ) (p x : ℕ) → drop p l ≡ x ∷ rest → (p < length l) × (get_or l p 0 ≡ x) × (drop (p + 1) l ≡ rest)
entry_at l rest p x e = go (ltb p (length l)) refl
  where
    go : (b : Bool) → ltb p (length l) ≡ b → (p < length l) × (get_or l p 0 ≡ x) × (drop (p + 1) l ≡ rest)
    go true q =
        let h = ltb-true p (length l) q in
        let s = sym (drop_step l p 0 h) ∙ e in
        (h, cc, cc)
    go false q = absurd (cc (drop_of_length-le l (ltb-false p (length l) q)))

pub none_left : (p : ℕ) (l : List ℕ) → drop p l ≡ [] → length l ≤ p
none_left p l e = omega (arith, simp length-drop at (ap length e))
