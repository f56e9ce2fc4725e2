-- What the library's `any` and `all` answer of a range of frames: that some frame passes, that each does. Assumes nothing.
use Prim.Native.Nat.{ℕ, zero, suc, ◌+◌, ◌-◌, ◌<◌}
use mathlib.Core.Path.{◌≡◌, refl, ap, ◌∙◌}
use mathlib.Core.Bool.{Bool, true, false, ◌&&◌, ◌||◌}
use mathlib.Core.List.{List}
use denote.Param.Members.{Mut}
use Rattle.std.specs.declared.ops.Range.{Range}
use Rattle.std.specs.Prelude.{Option, MatchOption}
use Rattle.std.specs.Iterator.{YieldsThen}
use Rattle.std.specs.Fn.{Called}
use Rattle.std.specs.List.{FoldsTo, list_any, list_all, range_with_len}
use Rattle.std.proofs.lemmas.Iterator.{YieldsList-from_range}
use Rattle.std.proofs.lemmas.Iterator.Search.{any_from_yields_List, all_from_yields_List}
use Rattle.lists.specs.Frames.{some_frame, all_frames}

-- how a range of frames goes on, as the library has it
abbrev frame_steps : Range ℕ → Option ℕ → Range ℕ → Type 0
frame_steps s r t = (t.end ≡ s.end) × MatchOption r ((s.end - s.start ≡ 0) × (t.start ≡ s.start)) (λ x. (0 < s.end - s.start) × (x ≡ s.start) × (t.start ≡ s.start + 1))

module _ (t : ℕ → Bool) where
  pub any_frame : (i k : ℕ) → list_any t (range_with_len i k) ≡ some_frame t i k
  unfolding some_frame
  any_frame i zero = refl
  any_frame i (suc k) = ap (λ (b : Bool). t i || b) (any_frame (i + 1) k)

  pub every_frame : (i k : ℕ) → list_all t (range_with_len i k) ≡ all_frames t i k
  unfolding all_frames
  every_frame i zero = refl
  every_frame i (suc k) = ap (λ (b : Bool). t i && b) (every_frame (i + 1) k)

  -- as the calls of `any` and `all` over a range say it, with a closure that asks the test and changes nothing
  module _ {F : Type 0} {g : Mut F (ℕ × Unit {0}) Bool} {s u : Range ℕ} {f : F} (asks : (x : ℕ) (b : Bool) (q : F) → Called g f (x, tt) b q → (q ≡ f) × (b ≡ t x)) (r : Bool) where
    pub any_in : (xs : List ℕ) × (o : Option ℕ) × (j : F) × YieldsThen frame_steps s xs o u × FoldsTo (λ p x q. Called g p (x, tt) false q) f xs j
        × MatchOption o (r ≡ false) (λ x. (r ≡ true) × ((h : F) × Called g j (x, tt) true h)) → r ≡ some_frame t s.start (s.end - s.start)
    any_in ran = any_from_yields_List t u f r ran (YieldsList-from_range s.start s.end (s.end - s.start) refl refl) asks ∙ any_frame s.start (s.end - s.start)

    pub all_in : (xs : List ℕ) × (o : Option ℕ) × (j : F) × YieldsThen frame_steps s xs o u × FoldsTo (λ p x q. Called g p (x, tt) true q) f xs j
        × MatchOption o (r ≡ true) (λ x. (r ≡ false) × ((h : F) × Called g j (x, tt) false h)) → r ≡ all_frames t s.start (s.end - s.start)
    all_in ran = all_from_yields_List t u f r ran (YieldsList-from_range s.start s.end (s.end - s.start) refl refl) asks ∙ every_frame s.start (s.end - s.start)
