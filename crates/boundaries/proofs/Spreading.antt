-- Marks spread over the frames that pass a test: the frames from one to another, one test after the other, creaks and long spans. Assumes nothing.
use Prim.Native.Nat.{ℕ, zero, suc, ◌+◌, ◌-◌, ◌≤◌, ◌<◌}
use native.Mathlib.Omega.{arith}
use mathlib.Core.Path.{◌≡◌, refl, sym, ap, subst, ◌∙◌, fun_ext}
use mathlib.Core.Bool.{Bool, true, false, ◌&&◌, ◌||◌, or-false, or-true, or_assoc}
use mathlib.Core.List.{List, [], ◌∷◌, ◌++◌}
use lib.ListN.{length, get_or, take, drop, replicate, length-append, length-drop, length-replicate, drop_of_length-le, get_or-append, get_or-replicate}
use lib.Seq.{get_or-append_right}
use Rattle.std.proofs.lemmas.List.{length-take-le, get_or-take, get_or-drop}
use lib.Dec.{ltb, leb}
use borrow.Author.Tests.{ltb-true, ltb-false, leb-true, leb-false, lt-ltb, le-ltb, le-leb}
use Rattle.lists.specs.Results.{filter}
use Rattle.lists.proofs.Tests.{test_iff}
use Rattle.lists.specs.Sorted.{StrictlyRises}
use Rattle.lists.proofs.Fill.{drop_step}
use Rattle.smooth.specs.Extrema.{inside}
use lib.Ieee.{Float}
use Rattle.lists.specs.By.{Each}
use Rattle.lists.proofs.Entries.{each_at}
use Rattle.runs.specs.declared.voiced.Span.{Span}
use Rattle.runs.specs.Syllables.{dropouts}
use Rattle.runs.proofs.Spacing.{dropout_wide}
use Rattle.boundaries.specs.Taken.{marked, Spread}
use Rattle.boundaries.specs.Edges.{filled, in_creak}
use Rattle.boundaries.specs.Minima.{in_long_span}
use Rattle.lists.proofs.Windows.{FirstTwo, first_two, next_rises}

-- ---- a list of zeros
pub get_or_zeros : (n i : ℕ) → ◌≡◌ {A = ℕ} (get_or (replicate n 0) i 0) 0
get_or_zeros zero i = refl
get_or_zeros (suc n) zero = refl
get_or_zeros (suc n) (suc i) = get_or_zeros n i

-- ---- a walk that marks frames: those that are marked, and the test that is left to spread, are the whole test
pub record Spreading (whole rest : ℕ → Bool) (m : List Bool) : Type 0 where
  pub size : length m ≡ 2048
  pub left : (x : ℕ) → (marked m x || rest x) ≡ whole x

-- no frame is marked
pub unmarked : (n i : ℕ) → marked (replicate n false) i ≡ false
unmarked zero i = refl
unmarked (suc n) zero = refl
unmarked (suc n) (suc i) = unmarked n i

pub spreading_start : (t : ℕ → Bool) → Spreading t t (replicate 2048 false)
spreading_start t = record { size = refl; left = λ x. ap (λ (b : Bool). b || t x) (unmarked 2048 x) }

pub spreading_on : {whole rest here : ℕ → Bool} (rest' : ℕ → Bool) {m m' : List Bool} → ((x : ℕ) → rest x ≡ (here x || rest' x)) → Spread here m m' → Spreading whole rest m → Spreading whole rest' m'
spreading_on {whole} {rest} {here} rest' {m} {m'} e s f = record {
  size = s.size ∙ f.size;
  left = λ x.
      ap (λ (b : Bool). b || rest' x) (s.spreads x) ∙ or_assoc (marked m x) (here x) (rest' x) ∙ sym (ap (λ (b : Bool). marked m x || b) (e x)) ∙ f.left x;
}

pub spreading_same : {whole rest rest' : ℕ → Bool} {m : List Bool} → ((x : ℕ) → rest x ≡ rest' x) → Spreading whole rest m → Spreading whole rest' m
spreading_same {whole} {rest} {rest'} {m} e f = record { size = f.size; left = λ x. ap (λ (b : Bool). marked m x || b) (sym (e x)) ∙ f.left x }

pub spreading_end : {whole rest : ℕ → Bool} {m : List Bool} → ((x : ℕ) → rest x ≡ false) → Spreading whole rest m → marked m ≡ whole
spreading_end {whole} {rest} {m} e f = fun_ext (λ x. sym (ap (λ (b : Bool). marked m x || b) (e x) ∙ or-false (marked m x)) ∙ f.left x)

-- the frames from a on and before b, all marked
module _ (m : List Bool) (a b : ℕ) (h : a ≤ b) (g : b ≤ length m) where
  abbrev part : List Bool
  part = take a m ++ (replicate (b - a) true ++ drop (b - a) (drop a m))

  before : length (take a m) ≡ a
  before = length-take-le a m (omega arith)

  part_at : (x : ℕ) → marked part x ≡ (marked m x || inside a b x)
  part_at x = go (leb a x) refl (ltb x b) refl
    where
      past : a ≤ x → marked part x ≡ marked (replicate (b - a) true ++ drop (b - a) (drop a m)) (x - a)
      past p = get_or-append_right (take a m) (replicate (b - a) true ++ drop (b - a) (drop a m)) x false (omega (arith, before)) ∙ ap (λ (n : ℕ). marked (replicate (b - a) true ++ drop (b - a) (drop a m)) (x - n)) before

      go : (p : Bool) → leb a x ≡ p → (q : Bool) → ltb x b ≡ q → marked part x ≡ (marked m x || (p && q))
      go false e q f = get_or-append (take a m) (replicate (b - a) true ++ drop (b - a) (drop a m)) false x (omega (arith, before, leb-false a x e)) ∙ get_or-take a m x false (leb-false a x e) ∙ sym (or-false (marked m x))
      go true e true f =
          past (leb-true a x e)
          ∙ get_or-append (replicate (b - a) true) (drop (b - a) (drop a m)) false (x - a) (rw length-replicate (omega (arith, leb-true a x e, ltb-true x b f)))
          ∙ get_or-replicate (b - a) (x - a) true false (omega (arith, leb-true a x e, ltb-true x b f)) ∙ sym (or-true (marked m x))
      go true e false f =
          let k : a + (b - a + (x - a - (b - a))) ≡ x = omega (arith, ltb-false x b f) in
          past (leb-true a x e)
          ∙ get_or-append_right (replicate (b - a) true) (drop (b - a) (drop a m)) (x - a) false (rw length-replicate (omega (arith, ltb-false x b f)))
          ∙ ap (λ (n : ℕ). marked (drop (b - a) (drop a m)) (x - a - n)) (length-replicate (b - a) true)
          ∙ get_or-drop (b - a) (drop a m) (x - a - (b - a)) false ∙ get_or-drop a m (b - a + (x - a - (b - a))) false ∙ ap (marked m) k ∙ sym (or-false (marked m x))

  -- how many they are
  pub part_length : length (take (b - a) (drop a m)) ≡ b - a
  part_length = length-take-le (b - a) (drop a m) (rw length-drop (omega arith))

  pub spread_part : {p : List Bool} → p ≡ replicate (b - a) true → Spread (inside a b) m (take a m ++ (p ++ drop (b - a) (drop a m)))
  spread_part e = rw e (record { size = simp (length-append, before, length-replicate, length-drop) (omega arith); spreads = part_at })

-- ---- creaks
abbrev pub creaks_in : (ℕ → Bool) → List Span → ℕ → Bool
creaks_in t gs = in_creak (filter (filled t) gs)

abbrev gap : List Span → ℕ → Span
gap gs i = get_or gs i (record { first = 0; last = 0 })

module _ (t : ℕ → Bool) (gs : List Span) (i : ℕ) where
  creak_here : (x : ℕ) → inside ((gap gs i).first + 1) ((gap gs i).last + 1) x ≡ (ltb (gap gs i).first x && leb x (gap gs i).last)
  creak_here x = ap (λ (p : Bool). p && ltb x ((gap gs i).last + 1)) (leb_ltb (gap gs i).first x) ∙ ap (λ (p : Bool). ltb (gap gs i).first x && p) (ltb_leb x (gap gs i).last)
    where
      leb_ltb : (b x : ℕ) → leb (b + 1) x ≡ ltb b x
      leb_ltb b x = test_iff (leb (b + 1) x) (ltb b x) (λ p. lt-ltb b x (omega (arith, leb-true (b + 1) x p))) (λ p. le-leb (b + 1) x (omega (arith, ltb-true b x p)))

      ltb_leb : (x z : ℕ) → ltb x (z + 1) ≡ leb x z
      ltb_leb x z = test_iff (ltb x (z + 1)) (leb x z) (λ p. le-leb x z (omega (arith, ltb-true x (z + 1) p))) (λ p. lt-ltb x (z + 1) (omega (arith, leb-true x z p)))

  pub creaks_yes : i < length gs → filled t (gap gs i) ≡ true → (x : ℕ) → creaks_in t (drop i gs) x ≡ (inside ((gap gs i).first + 1) ((gap gs i).last + 1) x || creaks_in t (drop (i + 1) gs) x)
  unfolding filter in_creak
  creaks_yes h e x = rw (drop_step gs i (record { first = 0; last = 0 }) h, e) (ap (λ (p : Bool). p || creaks_in t (drop (i + 1) gs) x) (sym (creak_here x)))

  pub creaks_no : i < length gs → filled t (gap gs i) ≡ false → (x : ℕ) → creaks_in t (drop i gs) x ≡ creaks_in t (drop (i + 1) gs) x
  unfolding filter
  creaks_no h e x = rw (drop_step gs i (record { first = 0; last = 0 }) h, e)

  pub creaks_over : length gs ≤ i → (x : ℕ) → creaks_in t (drop i gs) x ≡ false
  unfolding filter in_creak
  creaks_over h x = rw (drop_of_length-le gs h)

-- a dropout of a track
pub gap_wide : (pitch : List Float) {gs : List Span} → gs ≡ dropouts pitch → (i : ℕ) → i < length gs → ((gap gs i).first + 3 < (gap gs i).last) × ((gap gs i).last < length pitch)
gap_wide pitch {gs} e i h = each_at (λ g. (g.first + 3 < g.last) × (g.last < length pitch)) gs (record { first = 0; last = 0 }) (subst (Each (λ g. (g.first + 3 < g.last) × (g.last < length pitch))) (sym e) (dropout_wide pitch)) i h

-- ---- long spans
in_none : (kept : List ℕ) → length kept < 2 → (x : ℕ) → in_long_span kept x ≡ false
unfolding in_long_span
in_none [] h x = refl
in_none (a ∷ []) h x = refl
in_none (a ∷ b ∷ kept) h x = absurd (omega arith)

-- the walk: marks are made inside the long spans of kept, but for those of rest
pub record Spans (kept rest : List ℕ) (size : ℕ) (m : List Bool) : Type 0 where
  pub two : size ≡ 2
  pub rises : StrictlyRises 0 2049 rest
  pub left : Spreading (in_long_span kept) (in_long_span rest) m

pub spans_start : (kept : List ℕ) {rest : List ℕ} {size : ℕ} → rest ≡ kept → size ≡ 2 → StrictlyRises 0 2049 kept → Spans kept rest size (replicate 2048 false)
spans_start kept e s r = record { two = s; rises = rw e r; left = rw e (spreading_start (in_long_span kept)) }

module _ {kept rest : List ℕ} {size : ℕ} {m : List Bool} (c : Spans kept rest size m) where
  pub spans_end : length rest < size → marked m ≡ in_long_span kept
  spans_end h = spreading_end (in_none rest (omega (arith, h, c.two))) c.left

  module _ {w rest' : List ℕ} {size' : ℕ} (s : size' ≡ size) (h : size ≤ length rest) (e : w ≡ take size rest) (f : rest' ≡ drop 1 rest) where
    split : FirstTwo 0 rest w rest'
    split = first_two 0 rest c.two h e f

    ends : (get_or w 0 0 < get_or w 1 0) × (get_or w 1 0 < 2049) × StrictlyRises 0 2049 rest'
    ends = next_rises 2049 split c.rises

    pub span_rises : (get_or w 0 0 < get_or w 1 0) × (get_or w 1 0 < 2049)
    span_rises = (ends.0, ends.1)

    here : (x : ℕ) → in_long_span rest x ≡ ((ltb 35 (get_or w 1 0 - get_or w 0 0) && inside (get_or w 0 0 + 1) (get_or w 1 0) x) || in_long_span rest' x)
    unfolding in_long_span
    here x =
        ap (λ (l : List ℕ). in_long_span l x) split.whole
        ∙ ap (λ (l : List ℕ). (ltb 35 (get_or w 1 0 - get_or w 0 0) && inside (get_or w 0 0 + 1) (get_or w 1 0) x) || in_long_span l x) (sym split.next)

    pub spans_long : {m' : List Bool} → 35 < get_or w 1 0 - get_or w 0 0 → Spread (inside (get_or w 0 0 + 1) (get_or w 1 0)) m m' → Spans kept rest' size' m'
    spans_long g p = record {
      two = s ∙ c.two;
      rises = ends.2;
      left =
          spreading_on (in_long_span rest')
          (λ x. here x ∙ ap (λ (b : Bool). (b && inside (get_or w 0 0 + 1) (get_or w 1 0) x) || in_long_span rest' x) (lt-ltb 35 (get_or w 1 0 - get_or w 0 0) g)) p c.left;
    }

    pub spans_short : get_or w 1 0 - get_or w 0 0 ≤ 35 → Spans kept rest' size' m
    spans_short g = record {
      two = s ∙ c.two;
      rises = ends.2;
      left =
          spreading_same
          (λ x. here x ∙ ap (λ (b : Bool). (b && inside (get_or w 0 0 + 1) (get_or w 1 0) x) || in_long_span rest' x) (le-ltb 35 (get_or w 1 0 - get_or w 0 0) g)) c.left;
    }
