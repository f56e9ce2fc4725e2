-- What a run holds of the kept frames, told by the first of them that does not lie before it and the next; and the second syllables of runs, a run at a time.
-- Assumes nothing.
use Prim.Native.Nat.{ℕ, ◌+◌, ◌-◌, ◌<◌, ◌≤◌, max}
use native.Mathlib.Omega.{arith}
use mathlib.Core.Path.{◌≡◌, refl, sym, ap, subst, ◌∙◌}
use mathlib.Core.Bool.{Bool, true, false, false≢true}
use mathlib.Core.List.{List, [], ◌∷◌, ◌++◌, append-nil}
use lib.Dec.{leb}
use native.Mathlib.Nat.{le_of_eq}
use lib.Seq.{take_all}
use lib.ListN.{length, get_or, take, drop, drop_of_length-le, length-drop}
use lib.Ieee.{Float}
use borrow.Author.Tests.{leb-true, leb-false, le-leb, lt-leb}
use Rattle.lists.specs.Results.{cons_if, filter}
use Rattle.lists.specs.Sorted.{StrictlyRises}
use Rattle.lists.proofs.Fill.{drop_step}
use Rattle.lists.proofs.Members.{strict_from}
use Rattle.runs.specs.declared.voiced.Span.{Span}
use Rattle.runs.specs.Runs.{Spaced}
use Rattle.std.specs.Prelude.{Option, None, Some}
use Rattle.runs.proofs.Pushing.{push_room, push_on}
use Rattle.extra.specs.declared.seconds.Second.{Second}
use Rattle.extra.specs.Seconds.{holds, only_one, held_by, besides, second_in, with_some, seconds}
use Rattle.extra.specs.Passing.{Onward, Serves, LeftFrom}

-- ---- what a run holds
module _ (r : Span) where
  holds_not : (f : ℕ) → (f + 2 < r.first → holds r f ≡ false) × (r.last + 2 < f → holds r f ≡ false)
  holds_not f = (λ h. lt-leb (max (r.first - f) (f - r.last)) 2 (omega arith), λ h. lt-leb (max (r.first - f) (f - r.last)) 2 (omega arith))

  holds_yes : (f : ℕ) → r.first ≤ f + 2 → f ≤ r.last + 2 → holds r f ≡ true
  holds_yes f h i = le-leb (max (r.first - f) (f - r.last)) 2 (omega arith)

  none_after : (lo n : ℕ) (xs : List ℕ) → r.last + 2 < lo → StrictlyRises lo n xs → filter (holds r) xs ≡ []
  unfolding filter
  none_after lo n [] h s = refl
  none_after lo n (x ∷ xs) h s = ap (λ (b : Bool). cons_if b x (filter (holds r) xs)) ((holds_not x).1 (omega (arith, s.0))) ∙ none_after (x + 1) n xs (omega (arith, s.0)) s.2

  -- the first frame of a list reaches the run
  abbrev reach : List ℕ → Bool
  reach [] = false
  reach (x ∷ xs) = leb x (r.last + 2)

  none_held : (lo n : ℕ) (l : List ℕ) → StrictlyRises lo n l → reach l ≡ false → filter (holds r) l ≡ []
  unfolding filter
  none_held lo n [] s e = refl
  none_held lo n (x ∷ xs) s e =
      let h : r.last + 2 < x = leb-false x (r.last + 2) e in
      ap (λ (b : Bool). cons_if b x (filter (holds r) xs)) ((holds_not x).1 h) ∙ none_after (x + 1) n xs (omega arith) s.2

  one_held : (lo n x : ℕ) (xs : List ℕ) → StrictlyRises lo n (x ∷ xs) → Onward r.first (x ∷ xs) → reach (x ∷ xs) ≡ true → reach xs ≡ false → filter (holds r) (x ∷ xs) ≡ x ∷ []
  unfolding filter
  one_held lo n x xs s o e f = ap (λ (b : Bool). cons_if b x (filter (holds r) xs)) (holds_yes x o (leb-true x (r.last + 2) e)) ∙ ap (λ (l : List ℕ). x ∷ l) (none_held (x + 1) n xs s.2 f)

  two_held : (lo n x : ℕ) (xs : List ℕ) → StrictlyRises lo n (x ∷ xs) → Onward r.first (x ∷ xs) → reach (x ∷ xs) ≡ true → reach xs ≡ true → only_one (filter (holds r) (x ∷ xs)) ≡ None
  unfolding filter
  two_held lo n x [] s o e f = absurd (false≢true f)
  two_held lo n x (y ∷ ys) s o e f =
      rw (holds_yes x o (leb-true x (r.last + 2) e), holds_yes y (omega (arith, s.2.0)) (leb-true y (r.last + 2) f))

-- ---- told by the first two of the frames, which lie not before the run
module _ (r : Span) (n : ℕ) where
  pub held_two : (kept : List ℕ) → StrictlyRises 0 n kept → Onward r.first kept → 2 ≤ length kept → get_or kept 1 0 ≤ r.last + 2 → None ≡ held_by kept r
  unfolding held_by
  held_two [] s o l h = absurd (omega arith)
  held_two (x ∷ []) s o l h = absurd (omega arith)
  held_two (x ∷ y ∷ ys) s o l h =
      sym (two_held r 0 n x (y ∷ ys) s o (le-leb x (r.last + 2) (omega (arith, s.2.0))) (le-leb y (r.last + 2) h))

  pub held_first : (kept : List ℕ) → StrictlyRises 0 n kept → Onward r.first kept → 1 ≤ length kept → get_or kept 0 0 ≤ r.last + 2 → (2 ≤ length kept → r.last + 2 < get_or kept 1 0) → Some (get_or kept 0 0) ≡ held_by kept r
  unfolding held_by
  held_first [] s o l h e = absurd (omega arith)
  held_first (x ∷ []) s o l h e = sym (ap only_one (one_held r 0 n x [] s o (le-leb x (r.last + 2) h) refl))
  held_first (x ∷ y ∷ ys) s o l h e =
      let past : r.last + 2 < y = e (omega arith) in
      sym (ap only_one (one_held r 0 n x (y ∷ ys) s o (le-leb x (r.last + 2) h) (lt-leb y (r.last + 2) past)))

  pub held_none : (kept : List ℕ) → StrictlyRises 0 n kept → (1 ≤ length kept → r.last + 2 < get_or kept 0 0) → None ≡ held_by kept r
  unfolding held_by filter
  held_none [] s e = refl
  held_none (x ∷ xs) s e =
      let past : r.last + 2 < x = e (omega arith) in
      sym (ap only_one (none_held r 0 n (x ∷ xs) s (lt-leb x (r.last + 2) past)))

-- ---- what is left of the kept frames
pub serves_all : (kept : List ℕ) (a : ℕ) → StrictlyRises 0 2048 kept → Serves kept a kept
serves_all kept a s = record { rises = s; same = λ r h. refl }

module _ {kept rest : List ℕ} {a : ℕ} (s : Serves kept a rest) where
  pub serves_up : (b : ℕ) → a ≤ b → Serves kept b rest
  serves_up b h = record { rises = s.rises; same = λ r l. s.same r (omega arith) }

  -- what is left of that
  pub serves_on : {less : List ℕ} → Serves rest a less → Serves kept a less
  serves_on {less} t = record { rises = t.rises; same = λ r h. s.same r h ∙ t.same r h }

  -- without the first frame, which lies before frame a
  pub serves_past : (f : ℕ) (fs : List ℕ) → rest ≡ f ∷ fs → f + 2 < a → Serves kept a fs
  unfolding held_by filter
  serves_past f fs e h =
      let up : StrictlyRises 0 2048 (f ∷ fs) = subst (StrictlyRises 0 2048) e s.rises in
      record {
        rises = strict_from 0 (f + 1) 2048 fs (omega arith) up.2;
        same = λ r l. s.same r l ∙ ap (λ (xs : List ℕ). only_one (filter (holds r) xs)) e ∙ ap (λ (b : Bool). only_one (cons_if b f (filter (holds r) fs))) ((holds_not r f).0 (omega arith));
      }

  pub left_from : Onward a rest → LeftFrom kept a rest
  left_from o = record { serves = s; onward = o }

-- from the first that does not lie before frame a, or none
module _ {kept : List ℕ} {a i : ℕ} (s : Serves kept a (drop i kept)) where
  pub left_at : i < length kept → a ≤ get_or kept i 0 + 2 → LeftFrom kept a (take (length kept - i) (drop i kept))
  left_at h o =
      let all : take (length kept - i) (drop i kept) ≡ drop i kept = take_all (length kept - i) (drop i kept) (le_of_eq (length-drop i kept)) in
      rw all (left_from s (subst (Onward a) (sym (drop_step kept i 0 h)) o))

  pub left_none : length kept ≤ i → LeftFrom kept a []
  left_none h = left_from (rw (drop_of_length-le kept h) at s) tt

-- ---- the second syllables, a run at a time
module _ (son : List Float) (kept : List ℕ) where
  pub seconds_few : (rs : List Span) → length (seconds son kept rs) ≤ length rs
  unfolding seconds
  seconds_few [] = omega arith
  seconds_few (r ∷ rs) = go (second_in son kept r) (seconds_few rs)
    where
      go : (x : Option Second) → length (seconds son kept rs) ≤ length rs → length (with_some x (seconds son kept rs)) ≤ length (r ∷ rs)
      go (Some x) h = omega arith
      go None h = omega arith

  -- the runs from i on, what is left of the kept frames, which serves them, and the second syllables so far
  pub record Walking (n : ℕ) (rs : List Span) (done : List Second) (rest : List ℕ) (i : ℕ) : Type 0 where
    pub lo : ℕ
    pub serves : Serves kept lo rest
    pub spaced : Spaced lo n (drop i rs)
    pub whole : done ++ seconds son kept (drop i rs) ≡ seconds son kept rs

  module _ (n : ℕ) (rs : List Span) where
    module _ (i : ℕ) (h : i < length rs) {done : List Second} {rest : List ℕ} (w : Walking n rs done rest i) where
      abbrev run : Span
      run = get_or rs i (record { first = 0; last = 0 })

      next : drop i rs ≡ run ∷ drop (i + 1) rs
      next = drop_step rs i (record { first = 0; last = 0 }) h

      left : Spaced w.lo n (run ∷ drop (i + 1) rs)
      left = subst (Spaced w.lo n) next w.spaced

      pub walk_within : (run.first ≤ run.last) × (run.last < n)
      walk_within = (left.1, left.2)

      now : done ++ with_some (second_in son kept run) (seconds son kept (drop (i + 1) rs)) ≡ seconds son kept rs
      unfolding seconds
      now = rw next at w.whole

      module _ {less : List ℕ} (l : LeftFrom rest run.first less) where
        serves : Serves kept run.first less
        serves = serves_on (serves_up w.serves run.first left.0) l.serves

        after : Serves kept (run.last + 4) less
        after = serves_up serves (run.last + 4) (omega (arith, left.1))

        -- the run's is told by what is left
        told : second_in son kept run ≡ second_in son less run
        unfolding second_in
        told = ap (besides son run) (serves.same run (omega arith))

        pub walk_none : second_in son less run ≡ None → Walking n rs done less (i + 1)
        walk_none e = record { lo = run.last + 4; serves = after; spaced = left.3; whole = rw (told ∙ e) at now }

        module _ (x : Second) (e : second_in son less run ≡ Some x) where
          pub walk_some : Walking n rs (done ++ (x ∷ [])) less (i + 1)
          walk_some = record { lo = run.last + 4; serves = after; spaced = left.3; whole = push_on done x (seconds son kept (drop (i + 1) rs)) (rw (told ∙ e) at now) }

          pub walk_room : (room : ℕ) → length (seconds son kept rs) ≤ room → length done < room
          walk_room = push_room done x (seconds son kept (drop (i + 1) rs)) (rw (told ∙ e) at now)

    pub walk_end : {done : List Second} {rest : List ℕ} {i : ℕ} → length rs ≤ i → Walking n rs done rest i → done ≡ seconds son kept rs
    unfolding seconds
    walk_end {done} {rest} {i} h w = sym (append-nil done) ∙ rw (drop_of_length-le rs h) at w.whole
