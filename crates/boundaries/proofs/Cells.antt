-- Marks hold the kept frames: what five cells say of a frame that is tried, one more mark, the walks that try frames, and the frames in order.
-- Assumes nothing.
use Prim.Native.Nat.{ℕ, zero, suc, ◌+◌, ◌-◌, ◌≤◌, ◌<◌}
use native.Mathlib.Omega.{arith}
use mathlib.Core.Path.{◌≡◌, refl, sym, ap, subst, ◌∙◌, fun_ext}
use mathlib.Core.Bool.{Bool, true, false, ◌&&◌, ◌||◌, cond, or-false}
use mathlib.Core.List.{List, [], ◌∷◌, ◌++◌, append-nil, append_assoc}
use mathlib.Core.Logic.{inl, inr}
use lib.ListN.{length, set, replicate, length-append, length-set}
use lib.Seq.{get_or-set_same, get_or-set_other}
use lib.Dec.{ltb, eqb}
use borrow.Author.Tests.{le-ltb, lt-ltb, eq-eqb, ne_eqb, eqb-true, eqb-false}
use Rattle.lists.specs.Results.{keep}
use Rattle.lists.specs.By.{Each}
use Rattle.lists.specs.Sorted.{sorted}
use Rattle.lists.specs.Marks.{member, in_order, Once}
use Rattle.lists.proofs.Tests.{not_holds, and_both, or_left, or_right, eqb_iff}
use Rattle.lists.proofs.Fill.{keep_step}
use Rattle.lists.proofs.Entries.{each_map, each_of_map}
use Rattle.lists.proofs.Sorting.{sorted_only}
use Rattle.lists.proofs.Members.{member_append, each_member, in_order_sorted}
use Rattle.boundaries.specs.declared.taken.Kept.{Kept}
use Rattle.boundaries.specs.Keeping.{clear, try_add, add_all, ends}
use Rattle.boundaries.specs.Taken.{marked, cells, kept_near, Taken, AddedInTurn, taken_frames}
use Rattle.boundaries.specs.Promises.{Near}
use Rattle.boundaries.proofs.Adding.{Far, clear_yes, clear_no, add_append}
use Rattle.boundaries.proofs.Spreading.{unmarked}

-- ---- cells
member_cells : (kept : List ℕ) (x : ℕ) → member (cells kept) (x + 2) ≡ member kept x
unfolding member
member_cells [] x = refl
member_cells (k ∷ l) x =
    ap (λ (b : Bool). b || member (cells l) (x + 2)) (eqb_iff (k + 2) (x + 2) k x (λ e. omega arith) (λ e. omega arith))
    ∙ ap (λ (b : Bool). eqb k x || b) (member_cells l x)

cells_more : (kept : List ℕ) (x : ℕ) → cells (kept ++ (x ∷ [])) ≡ cells kept ++ ((x + 2) ∷ [])
cells_more [] x = refl
cells_more (k ∷ l) x = ap (λ (r : List ℕ). (k + 2) ∷ r) (cells_more l x)

member_more : (kept : List ℕ) (x i : ℕ) → member (cells (kept ++ (x ∷ []))) i ≡ (member (cells kept) i || eqb (x + 2) i)
unfolding member
member_more kept x i =
    ap (λ (l : List ℕ). member l i) (cells_more kept x) ∙ member_append (cells kept) ((x + 2) ∷ []) i ∙ ap (λ (b : Bool). member (cells kept) i || b) (or-false (eqb (x + 2) i))

-- ---- five cells
none_near : (at : ℕ) (kept : List ℕ) → clear at kept ≡ true → (d : ℕ) → d ≤ 4 → member (cells kept) (at + d) ≡ false
none_near at kept e d h =
    not_holds (member (cells kept) (at + d))
    (λ m. each_member (λ y. y ≡ at + d → ⊥) (cells kept) (at + d)
    (each_of_map (λ y. y ≡ at + d → ⊥) (λ x. x + 2) kept (each_map (λ k. Far k at) (λ k. k + 2 ≡ at + d → ⊥) (λ k f q. apart k f q) kept (clear_yes at kept e))) m refl)
  where
    apart : (k : ℕ) → Far k at → k + 2 ≡ at + d → ⊥
    apart k (inl p) q = omega arith
    apart k (inr p) q = omega arith

near_cell : (at : ℕ) (l : List ℕ) → Near at l → (Q : Type 0) → ((d : ℕ) → d ≤ 4 → member (cells l) (at + d) ≡ true → Q) → Q
unfolding member
near_cell at [] n Q f = absurd n
near_cell at (k ∷ l) (inl c) Q f = f (k + 2 - at) (omega (arith, c.0)) (or_left _ _ (eq-eqb (k + 2) (at + (k + 2 - at)) (omega (arith, c.1))))
near_cell at (k ∷ l) (inr r) Q f = near_cell at l r Q (λ d h m. f d h (or_right (eqb (k + 2) (at + d)) (member (cells l) (at + d)) m))

-- some one of the five is marked
five_some : (f : ℕ → Bool) (at d : ℕ) → d ≤ 4 → f (at + d) ≡ true → (f at || f (at + 1) || f (at + 2) || f (at + 3) || f (at + 4)) ≡ true
five_some f at zero h e =
    let q : at ≡ at + 0 = omega arith in
    or_left _ _ (or_left _ _ (or_left _ _ (or_left _ _ (ap f q ∙ e))))
five_some f at (suc zero) h e = or_left _ _ (or_left _ _ (or_left _ _ (or_right (f at) _ e)))
five_some f at (suc (suc zero)) h e = or_left _ _ (or_left _ _ (or_right (f at || f (at + 1)) _ e))
five_some f at (suc (suc (suc zero))) h e = or_left _ _ (or_right (f at || f (at + 1) || f (at + 2)) _ e)
five_some f at (suc (suc (suc (suc zero)))) h e = or_right (f at || f (at + 1) || f (at + 2) || f (at + 3)) _ e
five_some f at (suc (suc (suc (suc (suc d))))) h e = absurd (omega arith)

five_none : (f : ℕ → Bool) (at : ℕ) → ((d : ℕ) → d ≤ 4 → f (at + d) ≡ false) → (f at || f (at + 1) || f (at + 2) || f (at + 3) || f (at + 4)) ≡ false
five_none f at h =
    let q : at ≡ at + 0 = omega arith in
    rw (ap f q ∙ h 0 (omega arith), h 1 (omega arith), h 2 (omega arith), h 3 (omega arith), h 4 (omega arith))

module _ {l : List ℕ} {k : Kept} (t : Taken l k) (at : ℕ) where
  pub near_none : kept_near k.marks at ≡ false → clear at l ≡ true
  near_none s = go (clear at l) refl
    where
      go : (b : Bool) → clear at l ≡ b → b ≡ true
      go true e = refl
      go false e = near_cell at l (clear_no at l e) (false ≡ true) (λ d h x. sym s ∙ five_some (marked k.marks) at d h (t.marks (at + d) ∙ x))

  pub near_some : kept_near k.marks at ≡ true → clear at l ≡ false
  near_some s = not_holds (clear at l) (λ e. absurd (no (sym s ∙ five_none (marked k.marks) at (λ d h. t.marks (at + d) ∙ none_near at l e d h))))
    where
      no : true ≡ false → ⊥
      no p = cc

-- ---- one more mark
abbrev pub with_mark : Kept → ℕ → Kept
with_mark k x = record { marks = set k.marks (x + 2) true; count = k.count + 1; cap = k.cap }

pub mark_more : {l : List ℕ} {k : Kept} → Taken l k → (x : ℕ) → x ≤ 2048 → Taken (l ++ (x ∷ [])) (with_mark k x)
mark_more {l} {k} t x h = record {
  size = length-set k.marks (x + 2) true ∙ t.size;
  count = simp length-append (omega (arith, t.count));
  marks = λ i. go i (eqb (x + 2) i) refl;
}
  where
    fits : x + 2 < length k.marks
    fits = omega (arith, t.size)

    last : (b : Bool) → (b || true) ≡ true
    last true = refl
    last false = refl

    go : (i : ℕ) (b : Bool) → eqb (x + 2) i ≡ b → marked (set k.marks (x + 2) true) i ≡ member (cells (l ++ (x ∷ []))) i
    go i true e =
        subst (λ (z : ℕ). marked (set k.marks (x + 2) true) z ≡ true) (eqb-true (x + 2) i e) (get_or-set_same k.marks (x + 2) true false fits)
        ∙ sym (member_more l x i ∙ ap (λ (b : Bool). member (cells l) i || b) e ∙ last (member (cells l) i))
    go i false e =
        get_or-set_other k.marks (x + 2) i true false (λ z. eqb-false (x + 2) i e (sym z)) ∙ t.marks i
        ∙ sym (member_more l x i ∙ ap (λ (b : Bool). member (cells l) i || b) e ∙ or-false (member (cells l) i))

-- ---- a frame that is tried
module _ (at : ℕ) (k : Kept) where
  stays : (l : List ℕ) → (ltb (length l) k.cap && clear at l) ≡ false → add_all k.cap l (at ∷ []) ≡ l
  unfolding add_all try_add
  stays l e = ap (λ (b : Bool). cond b (l ++ (at ∷ [])) l) e

  goes : (l : List ℕ) → (ltb (length l) k.cap && clear at l) ≡ true → add_all k.cap l (at ∷ []) ≡ l ++ (at ∷ [])
  unfolding add_all try_add
  goes l e = ap (λ (b : Bool). cond b (l ++ (at ∷ [])) l) e

  off : (b d : Bool) → d ≡ false → (b && d) ≡ false
  off true d q = q
  off false d q = refl

  pub try_full : k.cap ≤ k.count → AddedInTurn (at ∷ []) k k
  try_full h = record {
    cap = refl;
    adds = λ l t. subst (λ (z : List ℕ). Taken z k) (sym (stays l (ap (λ (b : Bool). b && clear at l) (le-ltb (length l) k.cap (omega (arith, t.count)))))) t;
  }

  pub try_near : kept_near k.marks at ≡ true → AddedInTurn (at ∷ []) k k
  try_near s = record {
    cap = refl;
    adds = λ l t. subst (λ (z : List ℕ). Taken z k) (sym (stays l (off (ltb (length l) k.cap) (clear at l) (near_some t at s)))) t;
  }

  pub try_put : k.count < k.cap → at ≤ 2048 → kept_near k.marks at ≡ false → AddedInTurn (at ∷ []) k (with_mark k at)
  try_put g h s = record {
    cap = refl;
    adds = λ l t.
        subst (λ (z : List ℕ). Taken z (with_mark k at))
        (sym (goes l (and_both (ltb (length l) k.cap) (clear at l) (lt-ltb (length l) k.cap (omega (arith, t.count))) (near_none t at s))))
        (mark_more t at h);
  }

-- nothing to try
pub add_none : (k : Kept) → AddedInTurn [] k k
unfolding add_all
add_none k = record { cap = refl; adds = λ l t. t }

-- one list after the other
pub add_then : {xs ys : List ℕ} {k k' k'' : Kept} → AddedInTurn xs k k' → AddedInTurn ys k' k'' → AddedInTurn (xs ++ ys) k k''
add_then {xs} {ys} {k} {k'} {k''} f g = record {
  cap = g.cap ∙ f.cap;
  adds = λ l t.
      subst (λ (z : List ℕ). Taken z k'')
      (ap (λ (c : ℕ). add_all c (add_all k.cap l xs) ys) f.cap ∙ sym (add_append k.cap l xs ys))
      (g.adds (add_all k.cap l xs) (f.adds l t));
}

-- ---- a walk that tries frames: of the whole those before the rest have been tried
pub record Trying (whole rest : List ℕ) (old k : Kept) : Type 0 where
  pub done : List ℕ
  pub split : done ++ rest ≡ whole
  pub added : AddedInTurn done old k

pub trying_start : (whole : List ℕ) (k : Kept) → Trying whole whole k k
trying_start whole k = record { done = []; split = refl; added = add_none k }

pub trying_some : {whole xs rest : List ℕ} {old k k' : Kept} → Trying whole (xs ++ rest) old k → AddedInTurn xs k k' → Trying whole rest old k'
trying_some {whole} {xs} {rest} f g = record { done = f.done ++ xs; split = append_assoc f.done xs rest ∙ f.split; added = add_then f.added g }

pub trying_end : {whole : List ℕ} {old k : Kept} → Trying whole [] old k → AddedInTurn whole old k
trying_end {whole} {old} {k} f = subst (λ (xs : List ℕ). AddedInTurn xs old k) (sym (append-nil f.done) ∙ f.split) f.added

-- the next kept frame, after those so far
module _ (t : ℕ → Bool) (n : ℕ) {whole : List ℕ} (frames : List ℕ) (i : ℕ) (h : i < n) (g : frames ++ keep t i (n - i) ≡ whole) where
  pub frame_yes : t i ≡ true → frames ++ (i ∷ keep t (i + 1) (n - (i + 1))) ≡ whole
  frame_yes e = rw (keep_step t i n h, e) at g

  pub frame_no : t i ≡ false → frames ++ keep t (i + 1) (n - (i + 1)) ≡ whole
  frame_no e = rw (keep_step t i n h, e) at g

-- ---- the region's ends
module _ (start end cap : ℕ) where
  abbrev none : Kept
  none = record { marks = replicate 2053 false; count = 0; cap = cap }

  pub none_taken : Taken [] none
  unfolding member
  none_taken = record { size = refl; count = refl; marks = λ i. unmarked 2053 i }

  abbrev marks : List Bool
  marks = set (set (replicate 2053 false) (start + 2) true) (end + 2) true

  set_again : (m : List Bool) (i : ℕ) → set (set m i true) i true ≡ set m i true
  set_again [] i = refl
  set_again (x ∷ m) zero = refl
  set_again (x ∷ m) (suc i) = ap (λ (l : List Bool). x ∷ l) (set_again m i)

  pub ends_one : start ≡ end → start ≤ 2048 → Taken (ends start end) (record { marks = marks; count = 1; cap = cap })
  ends_one e h =
      let same : set (replicate 2053 false) (start + 2) true ≡ marks = sym (set_again (replicate 2053 false) (start + 2)) ∙ ap (λ (z : ℕ). set (set (replicate 2053 false) (start + 2) true) (z + 2) true) e in
      subst (λ (l : List ℕ). Taken l (record { marks = marks; count = 1; cap = cap })) (sym (ap (λ (b : Bool). cond b (start ∷ []) (start ∷ end ∷ [])) (eq-eqb start end e)))
      (subst (λ (m : List Bool). Taken (start ∷ []) (record { marks = m; count = 1; cap = cap })) same (mark_more none_taken start h))

  pub ends_two : (start ≡ end → ⊥) → start ≤ 2048 → end ≤ 2048 → Taken (ends start end) (with_mark (with_mark none start) end)
  ends_two n h g =
      subst (λ (l : List ℕ). Taken l (with_mark (with_mark none start) end)) (sym (ap (λ (b : Bool). cond b (start ∷ []) (start ∷ end ∷ [])) (ne_eqb start end n)))
      (mark_more (mark_more none_taken start h) end g)

-- ---- the frames in order
pub in_order_lem : (l : List ℕ) (k : Kept) (n : ℕ) → Taken l k → Each (λ x. x ≤ n) l → Once l → taken_frames k.marks n ≡ sorted l
unfolding in_order
in_order_lem l k n t h o =
    ap (λ (f : ℕ → Bool). keep f 0 (n + 1)) (fun_ext (λ x. t.marks (x + 2) ∙ member_cells l x))
    ∙ sorted_only (in_order_sorted l (n + 1) (each_map (λ x. x ≤ n) (λ x. x < n + 1) (λ x g. omega arith) l h) o)
