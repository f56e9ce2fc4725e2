-- A lent list whose entries are replaced part by part by those of another: nothing yet, one entry more, two parts that adjoin, and all. `Writing new old a b out i` is the
-- invariant of a loop that replaces those from a on and before b, and has come to i. Assumes nothing.
use Prim.Native.Nat.{ℕ, suc, ◌+◌, ◌-◌, ◌≤◌, ◌<◌}
use native.Mathlib.Nat.{sub-zero}
use native.Mathlib.Omega.{arith}
use mathlib.Core.Path.{◌≡◌, sym, ap, ap₂, ◌∙◌}
use mathlib.Core.List.{List, ◌++◌, append_assoc}
use lib.ListN.{length, take, drop, get_or, set, length-drop, get_or-append}
use lib.Seq.{paste, paste-zero, paste-suc, length-paste, take-paste, drop-paste, take-add, drop-drop, get_or-take, get_or-drop, get_or-append-add, length-take-le, take-length}
use Rattle.lists.specs.Results.{overlay, replaced}

module _ {ℓ} {A : Type ℓ} (new old : List A) where
  as_paste : (a b : ℕ) → a ≤ b → replaced a b new old ≡ paste old a (drop a new) (b - a)
  unfolding replaced
  as_paste a b h =
      let e : a + (b - a) ≡ b = omega arith in
      rw e

  pub length_replaced : (a b : ℕ) → a ≤ b → b ≤ length new → b ≤ length old → length (replaced a b new old) ≡ length old
  length_replaced a b h l k = ap length (as_paste a b h) ∙ length-paste old a (drop a new) (b - a) (omega arith) (omega (arith, length-drop a new))

  replaced_none : (a : ℕ) → old ≡ replaced a a new old
  replaced_none a =
      let e : a - a ≡ 0 = omega arith in
      paste-zero old a (drop a new) ∙ ap (λ (k : ℕ). paste old a (drop a new) k) (sym e) ∙ sym (as_paste a a (omega arith))

  replaced_more : (a i : ℕ) (d : A) → a ≤ i → i < length new → i < length old → set (replaced a i new old) i (get_or new i d) ≡ replaced a (i + 1) new old
  replaced_more a i d h l k =
      let e : a + (i - a) ≡ i = omega arith in
      let n : i + 1 - a ≡ suc (i - a) = omega arith in
      let g : get_or (drop a new) (i - a) d ≡ get_or new i d = get_or-drop a new (i - a) d ∙ ap (λ (k : ℕ). get_or new k d) e in
      ap (λ (l : List A). set l i (get_or new i d)) (as_paste a i h)
      ∙ ap₂ (λ (k : ℕ) (x : A). set (paste old a (drop a new) (i - a)) k x) (sym e) (sym g)
      ∙ paste-suc old a (drop a new) (i - a) d (omega arith) (omega (arith, length-drop a new))
      ∙ ap (λ (k : ℕ). paste old a (drop a new) k) (sym n)
      ∙ sym (as_paste a (i + 1) (omega arith))

  -- what stands before b, and from b on
  replaced_front : (a b : ℕ) → a ≤ b → b ≤ length new → b ≤ length old → take b (replaced a b new old) ≡ take a old ++ take (b - a) (drop a new)
  replaced_front a b h k l =
      let e : a + (b - a) ≡ b = omega arith in
      ap₂ (λ (z : ℕ) (r : List A). take z r) (sym e) (as_paste a b h) ∙ take-paste old a (drop a new) (b - a) (omega arith) (omega (arith, length-drop a new))

  replaced_rest : (a b : ℕ) → a ≤ b → b ≤ length new → b ≤ length old → drop b (replaced a b new old) ≡ drop b old
  replaced_rest a b h k l =
      let e : a + (b - a) ≡ b = omega arith in
      ap₂ (λ (z : ℕ) (r : List A). drop z r) (sym e) (as_paste a b h) ∙ drop-paste old a (drop a new) (b - a) (omega arith) (omega (arith, length-drop a new)) ∙ ap (λ (z : ℕ). drop z old) e

  replaced_join : (a b c : ℕ) → a ≤ b → b ≤ c → c ≤ length new → c ≤ length old → replaced b c new (replaced a b new old) ≡ replaced a c new old
  unfolding replaced
  replaced_join a b c h k l m =
      let e : a + (b - a) ≡ b = omega arith in
      let n : b - a + (c - b) ≡ c - a = omega arith in
      let w : b + (c - b) ≡ c = omega arith in
      let x : take (b - a + (c - b)) (drop a new) ≡ take (b - a) (drop a new) ++ take (c - b) (drop (b - a) (drop a new)) = take-add (b - a) (c - b) (drop a new) in
      let y : drop (b - a) (drop a new) ≡ drop b new = drop-drop (b - a) a new ∙ ap (λ (z : ℕ). drop z new) e in
      let r = replaced a b new old in
      let t : take b r ≡ take a old ++ take (b - a) (drop a new) = replaced_front a b h (omega arith) (omega arith) in
      let u : drop b r ≡ drop b old = replaced_rest a b h (omega arith) (omega arith) in
      let v : drop c r ≡ drop c old = ap (λ (z : ℕ). drop z r) (sym w) ∙ sym (drop-drop (c - b) b r) ∙ ap (drop (c - b)) u ∙ drop-drop (c - b) b old ∙ ap (λ (z : ℕ). drop z old) w in
      ap₂ (λ (p q : List A). p ++ take (c - b) (drop b new) ++ q) t v
      ∙ ap (λ (p : List A). p ++ drop c old) (append_assoc (take a old) (take (b - a) (drop a new)) (take (c - b) (drop b new)))
      ∙ ap (λ (p : List A). take a old ++ p ++ drop c old) (ap (λ (q : List A). take (b - a) (drop a new) ++ take (c - b) q) (sym y) ∙ sym x ∙ ap (λ (z : ℕ). take z (drop a new)) n)

  -- entry by entry
  module _ (a b : ℕ) (h : a ≤ b) (from : b ≤ length new) (to : b ≤ length old) (k : ℕ) (d : A) where
    front_at : k < b → get_or (replaced a b new old) k d ≡ get_or (take a old ++ take (b - a) (drop a new)) k d
    front_at l = sym (get_or-take b (replaced a b new old) k d l) ∙ ap (λ (r : List A). get_or r k d) (replaced_front a b h from to)

    pub replaced_before : k < a → get_or (replaced a b new old) k d ≡ get_or old k d
    replaced_before l = front_at (omega arith) ∙ get_or-append (take a old) (take (b - a) (drop a new)) d k (omega (arith, length-take-le a old (omega arith))) ∙ get_or-take a old k d l

    pub replaced_inside : a ≤ k → k < b → get_or (replaced a b new old) k d ≡ get_or new k d
    replaced_inside g l =
        let n : length (take a old) + (k - a) ≡ k = omega (arith, length-take-le a old (omega arith)) in
        let m : a + (k - a) ≡ k = omega arith in
        front_at l ∙ ap (λ (j : ℕ). get_or (take a old ++ take (b - a) (drop a new)) j d) (sym n) ∙ get_or-append-add (take a old) (take (b - a) (drop a new)) (k - a) d
        ∙ get_or-take (b - a) (drop a new) (k - a) d (omega arith) ∙ get_or-drop a new (k - a) d ∙ ap (λ (j : ℕ). get_or new j d) m

    pub replaced_after : b ≤ k → get_or (replaced a b new old) k d ≡ get_or old k d
    replaced_after g =
        let e : b + (k - b) ≡ k = omega arith in
        ap (λ (j : ℕ). get_or (replaced a b new old) j d) (sym e) ∙ sym (get_or-drop b (replaced a b new old) (k - b) d) ∙ ap (λ (r : List A). get_or r (k - b) d) (replaced_rest a b h from to)
        ∙ get_or-drop b old (k - b) d ∙ ap (λ (j : ℕ). get_or old j d) e

  pub replaced_all : (n : ℕ) → n ≡ length new → replaced 0 n new old ≡ overlay new old
  unfolding replaced overlay
  replaced_all n e = ap (λ (z : ℕ). take (z - 0) new ++ drop z old) e ∙ ap (λ (z : ℕ). take z new ++ drop (length new) old) (sub-zero (length new)) ∙ ap (λ (l : List A). l ++ drop (length new) old) (take-length new)

  -- in three parts
  pub replaced_parts : (a b n : ℕ) {o₁ o₂ o₃ : List A} → a ≤ b → b ≤ n → n ≡ length new → n ≤ length old →
      o₁ ≡ replaced 0 a new old → o₂ ≡ replaced a b new o₁ → o₃ ≡ replaced b n new o₂ → o₃ ≡ overlay new old
  replaced_parts a b n {o₁} {o₂} {o₃} h k e l p q r =
      let two : o₂ ≡ replaced 0 b new old = q ∙ ap (replaced a b new) p ∙ replaced_join 0 a b (omega arith) h (omega arith) (omega arith) in
      r ∙ ap (replaced b n new) two ∙ replaced_join 0 b n (omega arith) k (omega arith) l ∙ replaced_all n e

-- ---- a loop over the places from a on and before b
pub record Writing {ℓ} {A : Type ℓ} (new old : List A) (a b : ℕ) (out : List A) (i : ℕ) : Type ℓ where
  pub from : a ≤ i
  pub to : i ≤ b
  pub source : b ≤ length new
  pub room : b ≤ length old
  pub laid : out ≡ replaced a i new old

module _ {ℓ} {A : Type ℓ} (new old : List A) (a b : ℕ) where
  pub write_start : a ≤ b → b ≤ length new → b ≤ length old → Writing new old a b old a
  write_start h k l = record { from = omega arith; to = h; source = k; room = l; laid = replaced_none new old a }

  module _ {out : List A} {i : ℕ} (w : Writing new old a b out i) where
    pub write_more : (d x : A) → i < b → x ≡ get_or new i d → Writing new old a b (set out i x) (i + 1)
    write_more d x h e =
        record {
          from = omega arith;
          to = omega arith;
          source = w.source;
          room = w.room;
          laid = ap₂ (λ (l : List A) (y : A). set l i y) w.laid e ∙ replaced_more new old a i d w.from (omega arith) (omega arith);
        }

    pub write_end : b ≤ i → out ≡ replaced a b new old
    write_end h =
        let e : i ≡ b = omega arith in
        w.laid ∙ ap (λ (k : ℕ). replaced a k new old) e
