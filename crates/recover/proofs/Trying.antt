-- The estimates of the frames, whatever the estimator: which frames have none, what their estimates have, and the list as it is filled. Assumes nothing.
use Prim.Native.Nat.{ℕ, ◌+◌, ◌-◌, ◌*◌, ◌≤◌, ◌<◌}
use native.Mathlib.Nat.{le_of_eq}
use native.Mathlib.Omega.{arith}
use mathlib.Core.Path.{◌≡◌, sym, ap, ap₂, ◌∙◌}
use mathlib.Core.Bool.{Bool, true, false, cond}
use mathlib.Core.List.{List, [], ◌++◌, append-nil}
use borrow.Rule.Slice.PartMut.{put_mid}
use lib.ListN.{length, get_or, set, take, drop, length-drop, drop_of_length-le}
use lib.Seq.{ext_get_or, length-take-le, get_or-take, get_or-drop}
use Rattle.std.proofs.Common.{take-append-drop}
use lib.Ieee.{Float}
use Rattle.lists.specs.By.{Each}
use Rattle.lists.proofs.Fill.{Filling, fill_start, fill_entry, fill_end, listed_all}
use Rattle.lists.proofs.Tabulated.{length_tabulate, tabulate_at, each_tabulate}
use Rattle.std.specs.Prelude.{Option, None, Some}
use Rattle.powers.specs.Pitch.{Between}
use Rattle.recover.specs.Estimates.{pitchless, tried, estimate_at, estimates, InRange}

module _ (period : ℕ → Option Float) (p : List Float) (s v : List ℕ) where
  pub length_estimates : length (estimates period p s v) ≡ length p
  unfolding estimates
  length_estimates = length_tabulate (estimate_at period p s v) (length p)

  pub estimate_of : (i : ℕ) → i < length p → get_or (estimates period p s v) i None ≡ estimate_at period p s v i
  unfolding estimates
  estimate_of i h = tabulate_at (estimate_at period p s v) (length p) i None h

  -- a frame with a pitch has no estimate
  pub untried : (i : ℕ) → pitchless p i ≡ false → estimate_at period p s v i ≡ None
  untried i a = rw a

  -- what every answer of the estimator has, a frame's estimate has
  pub estimate_has : (P : Float → Type 0) → ((k : ℕ) (x : Float) → period k ≡ Some x → P x) → (i : ℕ) (x : Float) → estimate_at period p s v i ≡ Some x → P x
  estimate_has P h i x e = go (tried p s v i) e
    where
      go : (t : Bool) → cond t (period (160 * i)) None ≡ Some x → P x
      go true e = h (160 * i) x e
      go false e = cc

  -- so where its answers are in range, an estimate is, and all are
  pub estimate_range : ((k : ℕ) → InRange (period k)) → (i : ℕ) → InRange (estimate_at period p s v i)
  estimate_range range = estimate_has (Between 60 600) range

  pub estimates_range : ((k : ℕ) → InRange (period k)) → Each InRange (estimates period p s v)
  unfolding estimates
  estimates_range range = each_tabulate InRange (estimate_at period p s v) (length p) (estimate_range range)

  -- ---- the list that is filled, one frame after another: it is for the last frames, as many as it has entries
  abbrev pub Trying : List (Option Float) → List (Option Float) → ℕ → Type 0
  Trying out₀ out i = Filling (drop (length p - length out₀) (estimates period p s v)) (drop i (drop (length p - length out₀) (estimates period p s v))) out₀ out i

  length_last : (out₀ : List (Option Float)) → length out₀ ≤ length p → length (drop (length p - length out₀) (estimates period p s v)) ≡ length out₀
  length_last out₀ few = omega (arith, length-drop (length p - length out₀) (estimates period p s v), length_estimates)

  module _ {out₀ : List (Option Float)} (few : length out₀ ≤ length p) where
    pub trying_start : Trying out₀ out₀ 0
    trying_start = fill_start (drop (length p - length out₀) (estimates period p s v)) out₀ (le_of_eq (length_last out₀ few))

    module _ {out : List (Option Float)} {i : ℕ} where
      pub trying_more : (x : Option Float) {k : ℕ} → i < length out₀ → x ≡ estimate_at period p s v k → k ≡ length p - length out₀ + i → Trying out₀ out i → Trying out₀ (set out i x) (i + 1)
      trying_more x {k} h e at f =
          let es = estimates period p s v in
          let from = length p - length out₀ in
          rw (e ∙ sym (estimate_of k (omega arith)) ∙ ap (λ (j : ℕ). get_or es j None) at ∙ sym (get_or-drop from es i None)) (fill_entry (drop from es) i None (rw (length_last out₀ few) h) f)

      pub trying_end : length out₀ ≤ i → Trying out₀ out i → out ≡ drop (length p - length out₀) (estimates period p s v)
      trying_end h f =
          let over : length (drop (length p - length out₀) (estimates period p s v)) ≤ i = omega (arith, length_last out₀ few) in
          listed_all (fill_end (rw (drop_of_length-le (drop (length p - length out₀) (estimates period p s v)) over) at f)) (le_of_eq (sym (length_last out₀ few)))

  -- ---- where no frame before the first is tried: a list of none, in which the estimates of the frames from the first on are written, has them all
  module _ (first : ℕ) (h : first ≤ length p) (untried : (i : ℕ) → i < first → tried p s v i ≡ false) (xs : List (Option Float)) (long : length xs ≡ length p) (blank : (i : ℕ) → i < first → get_or xs i None ≡ None) where
    front : take first xs ≡ take first (estimates period p s v)
    front =
        let es = estimates period p s v in
        let k : length (take first xs) ≡ first = length-take-le first xs (omega arith) in
        let l : length (take first es) ≡ first = length-take-le first es (omega (arith, length_estimates)) in
        ext_get_or None (take first xs) (take first es) (k ∙ sym l)
        (λ i m.
        let j : i < first = omega arith in
        get_or-take first xs i None j ∙ blank i j ∙ sym (get_or-take first es i None j ∙ estimate_of i (omega arith) ∙ ap (λ (b : Bool). cond b (period (160 * i)) None) (untried i j)))

    pub all_written : (ys : List (Option Float)) → ys ≡ drop (length p - length (take (length xs - first) (drop first xs))) (estimates period p s v)
        → put_mid first (length xs - first) xs ys ≡ estimates period p s v
    all_written ys e =
        let es = estimates period p s v in
        let from : length p - length (take (length xs - first) (drop first xs)) ≡ first =
        let r : length (take (length xs - first) (drop first xs)) ≡ length xs - first = length-take-le (length xs - first) (drop first xs) (omega (arith, length-drop first xs)) in
        omega arith
        in
        let none-left : drop (length xs - first) (drop first xs) ≡ [] = drop_of_length-le (drop first xs) (let q = length-drop first xs in omega arith) in
        ap₂ (λ (a b : List (Option Float)). a ++ (ys ++ b)) front none-left ∙ ap (λ (b : List (Option Float)). take first es ++ b) (append-nil ys ∙ e ∙ ap (λ (k : ℕ). drop k es) from) ∙ take-append-drop first es
