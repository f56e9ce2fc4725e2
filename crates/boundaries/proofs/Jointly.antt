-- Joints: their cases, the run that a nucleus belongs to, and the walk over neighbouring nuclei. Assumes nothing.
use Prim.Native.Nat.{ℕ, ◌+◌, ◌*◌, ◌≤◌, ◌<◌}
use native.Mathlib.Omega.{arith}
use native.Mathlib.Nat.{le_trans, le_of_lt}
use mathlib.Core.Path.{◌≡◌, refl, sym, ap, subst, ◌∙◌}
use mathlib.Core.Bool.{Bool, true, false, not, ◌&&◌, cond}
use mathlib.Core.List.{List, [], ◌∷◌, ◌++◌}
use lib.ListN.{length, get_or, take, drop, length-append}
use lib.Dec.{ltb, eqb}
use Rattle.std.specs.Prelude.{Option, None, Some}
use lib.Ieee.{Float}
use borrow.Author.Tests.{ltb-true, lt-ltb, le-ltb}
use Rattle.lists.specs.Results.{cons_if, filter}
use Rattle.lists.specs.By.{Each}
use Rattle.lists.specs.Sorted.{StrictlyRises}
use Rattle.lists.proofs.Tests.{and_cases, and_both}
use Rattle.lists.proofs.Fill.{filter_le, filter_append}
use Rattle.lists.proofs.Entries.{each_map, each_filter}
use Rattle.smooth.specs.Extrema.{argmin_middle, shallow}
use Rattle.runs.specs.Runs.{InTrack}
use Rattle.runs.specs.declared.voiced.Span.{Span}
use Rattle.runs.specs.Near.{run_of, Answers}
use Rattle.runs.specs.declared.near.Found.{Found}
use Rattle.runs.proofs.Nearest.{run_of_answers, found_each}
use Rattle.boundaries.specs.declared.taken.Kept.{Kept}
use Rattle.boundaries.specs.Joints.{joint_by, joint, joints, inner, joints_inside}
use Rattle.boundaries.specs.Taken.{AddedInTurn}
use Rattle.boundaries.proofs.Cells.{add_none, add_then, Trying, trying_start, trying_some, trying_end}
use Rattle.boundaries.proofs.Turns.{In}
use Rattle.lists.proofs.Windows.{FirstTwo, first_two, next_rises}

-- the run that is found lies in the track
pub found_within : (n : ℕ) (rs : List Span) (at : ℕ) (f : Found) → InTrack n rs → run_of rs at ≡ Some f → f.run.last < n
found_within n rs at f w e = (found_each (λ r. (r.first ≤ r.last) × (r.last < n)) rs at f w (subst (Answers at rs) e (run_of_answers at rs))).1

-- ---- the cases of a joint
module _ (level : List Float) (rs : List Span) (dip : Float) (a b : ℕ) where
  pub joint_none : {js : List ℕ} → run_of rs a ≡ None → js ≡ argmin_middle level a b ∷ [] → js ≡ joint level rs dip a b
  unfolding joint
  joint_none e g = rw e g

  pub joint_lone : {js : List ℕ} {x : Found} → run_of rs a ≡ Some x → run_of rs b ≡ None → js ≡ argmin_middle level a b ∷ [] → js ≡ joint level rs dip a b
  unfolding joint
  joint_lone e d g = rw (e, d) g

  pub joint_both : {x y : Found} → run_of rs a ≡ Some x → run_of rs b ≡ Some y →
      joint level rs dip a b ≡ cond (not (eqb x.number y.number) && shallow level a b dip) ((x.run.last + 1) ∷ y.run.first ∷ []) (argmin_middle level a b ∷ [])
  unfolding joint
  joint_both e d = rw (e, d)

module _ (start end at : ℕ) where
  only : (b : Bool) → inner start end at ≡ b → filter (inner start end) (at ∷ []) ≡ cons_if b at []
  unfolding filter
  only b e = ap (λ (t : Bool). cons_if t at []) e

  -- a frame strictly inside the region is tried
  pub tried_inside : {k k' : Kept} → start < at → at < end → AddedInTurn (at ∷ []) k k' → AddedInTurn (filter (inner start end) (at ∷ [])) k k'
  tried_inside {k} {k'} h g a = subst (λ (xs : List ℕ). AddedInTurn xs k k') (sym (only true (and_both (ltb start at) (ltb at end) (lt-ltb start at h) (lt-ltb at end g)))) a

  none_inside : (k : Kept) → inner start end at ≡ false → AddedInTurn (filter (inner start end) (at ∷ [])) k k
  none_inside k e = subst (λ (xs : List ℕ). AddedInTurn xs k k) (sym (only false e)) (add_none k)

  -- another is not
  pub left_out : (k : Kept) → at ≤ start → AddedInTurn (filter (inner start end) (at ∷ [])) k k
  left_out k h = none_inside k (ap (λ (t : Bool). t && ltb at end) (le-ltb start at h))

  pub right_out : (k : Kept) → start < at → end ≤ at → AddedInTurn (filter (inner start end) (at ∷ [])) k k
  right_out k g h = none_inside k (ap (λ (t : Bool). t && ltb at end) (lt-ltb start at g) ∙ le-ltb at end h)

-- both edges of a break
pub two_inside : (p : ℕ → Bool) (l f : ℕ) {k k' k'' : Kept} → AddedInTurn (filter p (l ∷ [])) k k' → AddedInTurn (filter p (f ∷ [])) k' k'' → AddedInTurn (filter p (l ∷ f ∷ [])) k k''
two_inside p l f {k} {k'} {k''} a b = subst (λ (xs : List ℕ). AddedInTurn xs k k'') (sym (filter_append p (l ∷ []) (f ∷ []))) (add_then a b)

-- ---- the walk: the joints of rest are left to try
module _ (level : List Float) (rs : List Span) (dip : Float) (start end n : ℕ) (ns : List ℕ) where
  abbrev pub inside_of : List ℕ → List ℕ
  inside_of rest = joints_inside level rs dip start end rest

  pub record Joining (rest : List ℕ) (size : ℕ) (old k : Kept) : Type 0 where
    pub two : size ≡ 2
    pub rises : StrictlyRises 0 n rest
    pub left : Trying (inside_of ns) (inside_of rest) old k

  pub joining_start : {rest : List ℕ} {size : ℕ} (k : Kept) → rest ≡ ns → size ≡ 2 → StrictlyRises 0 n ns → Joining rest size k k
  joining_start k e s r = record { two = s; rises = rw e r; left = rw e (trying_start (inside_of ns) k) }

  lone : (rest : List ℕ) → length rest < 2 → inside_of rest ≡ []
  unfolding joints_inside joints filter
  lone [] h = refl
  lone (a ∷ []) h = refl
  lone (a ∷ b ∷ rest) h = absurd (omega arith)

  module _ {rest : List ℕ} {size : ℕ} {old k : Kept} (c : Joining rest size old k) where
    pub joining_end : length rest < size → AddedInTurn (inside_of ns) old k
    joining_end h = trying_end (subst (λ (l : List ℕ). Trying (inside_of ns) l old k) (lone rest (omega (arith, h, c.two))) c.left)

    module _ {w rest' : List ℕ} {size' : ℕ} (s : size' ≡ size) (h : size ≤ length rest) (e : w ≡ take size rest) (f : rest' ≡ drop 1 rest) where
      split : FirstTwo 0 rest w rest'
      split = first_two 0 rest c.two h e f

      ends : (get_or w 0 0 < get_or w 1 0) × (get_or w 1 0 < n) × StrictlyRises 0 n rest'
      ends = next_rises n split c.rises

      pub pair_rises : (get_or w 0 0 ≤ get_or w 1 0) × (get_or w 1 0 < n)
      pair_rises = (le_of_lt ends.0, ends.1)

      here : inside_of rest ≡ filter (inner start end) (joint level rs dip (get_or w 0 0) (get_or w 1 0)) ++ inside_of rest'
      unfolding joints_inside joints
      here =
          ap (λ (l : List ℕ). filter (inner start end) (joints level rs dip l)) split.whole
          ∙ filter_append (inner start end) (joint level rs dip (get_or w 0 0) (get_or w 1 0)) (joints level rs dip (get_or w 1 0 ∷ split.rest))
          ∙ ap (λ (l : List ℕ). filter (inner start end) (joint level rs dip (get_or w 0 0) (get_or w 1 0)) ++ filter (inner start end) (joints level rs dip l)) (sym split.next)

      pub joining_on : {js : List ℕ} {k' : Kept} → js ≡ joint level rs dip (get_or w 0 0) (get_or w 1 0) → AddedInTurn (filter (inner start end) js) k k' → Joining rest' size' old k'
      joining_on {js} {k'} p a = record {
        two = s ∙ c.two;
        rises = ends.2;
        left =
            trying_some (subst (λ (l : List ℕ). Trying (inside_of ns) l old k) here c.left)
            (subst (λ (xs : List ℕ). AddedInTurn (filter (inner start end) xs) k k') p a);
      }

-- ---- the joints lie inside the region, and are few
pub joints_in : (level : List Float) (rs : List Span) (dip : Float) (start end : ℕ) (ns : List ℕ) → Each (In start end) (joints_inside level rs dip start end ns)
unfolding joints_inside
joints_in level rs dip start end ns = each_map (λ i. inner start end i ≡ true) (In start end) within (filter (inner start end) (joints level rs dip ns)) (each_filter (inner start end) (joints level rs dip ns))
  where
    within : (i : ℕ) → inner start end i ≡ true → In start end i
    within i e = let c = and_cases (ltb start i) (ltb i end) e in (omega (arith, ltb-true start i c.0), omega (arith, ltb-true i end c.1))

module _ (level : List Float) (rs : List Span) (dip : Float) where
  joint_few : (a b : ℕ) → length (joint level rs dip a b) ≤ 2
  unfolding joint
  joint_few a b = go (run_of rs a) (run_of rs b)
    where
      pick : (c : Bool) (x y z : ℕ) → length (cond c (x ∷ y ∷ []) (z ∷ [])) ≤ 2
      pick true x y z = omega arith
      pick false x y z = omega arith

      go : (x y : Option Found) → length (joint_by level dip a b x y) ≤ 2
      go (Some x) (Some y) = pick (not (eqb x.number y.number) && shallow level a b dip) (x.run.last + 1) y.run.first (argmin_middle level a b)
      go (Some x) None = omega arith
      go None y = omega arith

  joints_few : (ns : List ℕ) → length (joints level rs dip ns) ≤ 2 * length ns
  unfolding joints
  joints_few [] = omega arith
  joints_few (a ∷ []) = omega arith
  joints_few (a ∷ b ∷ ns) = omega (arith, length-append (joint level rs dip a b) (joints level rs dip (b ∷ ns)), joint_few a b, joints_few (b ∷ ns))

  pub inside_few : (start end : ℕ) (ns : List ℕ) → length (joints_inside level rs dip start end ns) ≤ 2 * length ns
  unfolding joints_inside
  inside_few start end ns = le_trans (filter_le (inner start end) (joints level rs dip ns)) (joints_few ns)
