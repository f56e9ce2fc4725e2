-- Where stretches start and end, and that every frame of one has the same two ends. Assumes nothing.
use Prim.Native.Nat.{ℕ, zero, suc, ◌+◌, ◌-◌, ◌≤◌, ◌<◌}
use native.Mathlib.Omega.{arith}
use native.Mathlib.Numerals.{add-one}
use mathlib.Core.Path.{◌≡◌, refl, sym, ap, ap₂, ◌∙◌}
use mathlib.Core.Bool.{Bool, true, false, not, cond}
use mathlib.Core.List.{List}
use borrow.Author.Tests.{leb-true, leb-false}
use lib.Dec.{leb}
use lib.ListN.{length, get_or, get_or-eq_default}
use lib.Ieee.{Float}
use Rattle.floats.specs.Plain.{zero_f}
use Rattle.lists.proofs.Walks.{First, first_is, first_only, none_yet, back_start, back_stop, back_found}
use Rattle.std.specs.Prelude.{Option, None, Some, MatchOption, unwrap_or}
use Rattle.recover.specs.Recovered.{near, starts, start_of, end_of, island, stored, recovered_at}

near_none : (e : Option Float) → near e None ≡ false
near_none None = refl
near_none (Some p) = refl

module _ (es : List (Option Float)) where
  -- a frame with no estimate starts a stretch, and so does the next one
  pub none_starts : (i : ℕ) → get_or es i None ≡ None → starts es i ≡ true
  none_starts zero e = refl
  none_starts (suc i) e = ap not (ap (near (get_or es i None)) e ∙ near_none (get_or es i None))

  pub next_starts : (i : ℕ) → get_or es i None ≡ None → starts es (i + 1) ≡ true
  next_starts i e = rw add-one (ap (λ (x : Option Float). not (near x (get_or es (suc i) None))) e)

  -- ---- the stretch of a frame
  pub first_after : (i : ℕ) → First (starts es) (i + 1) (length es - (i + 1)) (end_of es i)
  first_after i = first_is (starts es) (i + 1) (length es - (i + 1))

  pub end_above : (i : ℕ) → i < end_of es i
  end_above i = omega (arith, (first_after i).low)

  pub end_within : (i : ℕ) → i < length es → end_of es i ≤ length es
  end_within i h = omega (arith, (first_after i).high)

  pub end_starts : (i : ℕ) → starts es (end_of es i) ≡ true
  end_starts i = go (leb (length es) (end_of es i)) refl
    where
      go : (b : Bool) → leb (length es) (end_of es i) ≡ b → starts es (end_of es i) ≡ true
      go true e = none_starts (end_of es i) (get_or-eq_default es None (leb-true (length es) (end_of es i) e))
      go false e = (first_after i).here (omega (arith, leb-false (length es) (end_of es i) e))

  -- what the library finds from the next frame on; where it finds none, the end of the list
  pub end_found : (i : ℕ) → i < length es → (r : Option ℕ)
      → MatchOption r ((k : ℕ) → i + 1 ≤ k → k < length es → starts es k ≡ false) (λ e. (i + 1 ≤ e) × (e < length es) × (starts es e ≡ true) × ((k : ℕ) → i + 1 ≤ k → k < e → starts es k ≡ false))
      → unwrap_or r (length es) ≡ end_of es i
  end_found i h None n = first_only (starts es) (i + 1) (length es - (i + 1)) (length es) (record { low = omega arith; high = omega arith; before = n; here = λ l. absurd (omega arith) })
  end_found i h (Some e) f = first_only (starts es) (i + 1) (length es - (i + 1)) e (record { low = f.0; high = omega (arith, f.1); before = f.3; here = λ l. f.2 })

  -- that of a frame with no estimate is the frame alone
  module _ (i : ℕ) (e : get_or es i None ≡ None) where
    pub start_alone : start_of es i ≡ i
    start_alone = sym (back_stop (starts es) i (back_start (starts es) i) (none_starts i e))

    pub end_alone : end_of es i ≡ i + 1
    end_alone =
        sym (first_only (starts es) (i + 1) (length es - (i + 1)) (i + 1) (record { low = omega arith; high = omega arith; before = none_yet (starts es) (i + 1); here = λ h. next_starts i e }))

  -- every frame from a stretch's first to before its end has the same two
  module _ (s : ℕ) (first : starts es s ≡ true) where
    starts_same : (k : ℕ) → s ≤ k → k < end_of es s → start_of es k ≡ s
    starts_same k l h = sym (back_found (starts es) k (record { high = l; after = λ j p q. (first_after s).before j p (omega arith) }) (λ z. first))

    ends_same : (k : ℕ) → s ≤ k → k < end_of es s → end_of es k ≡ end_of es s
    ends_same k l h =
        sym (first_only (starts es) (k + 1) (length es - (k + 1)) (end_of es s)
        (record { low = omega arith; high = omega (arith, (first_after s).high); before = λ j p q. (first_after s).before j (omega arith) q; here = λ z. end_starts s }))

    pub inside_at : (given : List Float) (b : Bool) → island given s (end_of es s) ≡ b
        → (k : ℕ) → s ≤ k → k < end_of es s → recovered_at given es k ≡ cond b (stored (get_or es k None)) (get_or given k zero_f)
    inside_at given b q k l h = ap (λ (t : Bool). cond t (stored (get_or es k None)) (get_or given k zero_f)) (ap₂ (island given) (starts_same k l h) (ends_same k l h) ∙ q)
