-- What recovery leaves, whatever the estimator: the track's length, every pitch that was given, and in other frames what they had or a rounded answer of the
-- estimator. Where its answers are from 60 to 600 Hz, so are these, and the track stays one of pitches in any range around that. Assumes nothing.
use Prim.Native.Nat.{ℕ, ◌+◌, ◌-◌, ◌*◌, ◌≤◌, ◌<◌}
use native.Mathlib.Nat.{sub-zero}
use native.Mathlib.Omega.{arith}
use mathlib.Core.Path.{◌≡◌, refl, sym, ap, ap₂, ◌∙◌, subst}
use mathlib.Core.Bool.{Bool, true, false, cond, true≢false}
use mathlib.Core.List.{List}
use mathlib.Core.Logic.{◌⊎◌, inl, inr, ⊎_elim}
use lib.Dec.{T, leb, lit<}
use lib.ListN.{length, get_or}
use lib.Seq.{ext_get_or}
use lib.Ieee.{Float, nan, binary32, round, le}
use lib.Ieee.Positive.{positive, num, den, den_pos, between, own_value, le→cross}
use lib.Ieee.Order.{round_mono}
use Rattle.floats.specs.Plain.{zero_f}
use Rattle.floats.specs.Narrow.{narrow}
use Rattle.floats.proofs.Narrow.{narrow_value}
use Rattle.lists.specs.By.{Each}
use Rattle.lists.specs.Frames.{at, some_frame, first_in}
use Rattle.lists.proofs.Tests.{not_holds}
use Rattle.lists.proofs.Walks.{some_at}
use Rattle.lists.proofs.Firsts.{first_none}
use Rattle.lists.proofs.Entries.{each_at, at_each}
use Rattle.lists.proofs.Parts.{get_d_any}
use Rattle.lists.proofs.Tabulated.{length_tabulate, tabulate_at}
use Rattle.std.specs.Prelude.{Option, None, Some}
use Rattle.powers.specs.Pitch.{hz, Between, PitchOrNone}
use Rattle.powers.proofs.Ranges.{enclosed}
use Rattle.recover.specs.Estimates.{pitchless, tried, estimates, InRange}
use Rattle.recover.specs.Recovered.{start_of, end_of, island, stored, recovered_at, recovered_from, recovered_by}
use Rattle.recover.proofs.Trying.{estimate_of, untried, estimate_has}
use Rattle.recover.proofs.Finding.{none_passes}
use Rattle.recover.proofs.Walking.{start_alone, end_alone}

-- ---- a frame of a stretch that is not recovered keeps what it had
pub off_island : (given : List Float) (es : List (Option Float)) (i : ℕ) → island given (start_of es i) (end_of es i) ≡ false → recovered_at given es i ≡ get_or given i zero_f
off_island given es i e = rw e

-- a frame with no estimate is such a stretch, of one frame
none_kept : (given : List Float) (es : List (Option Float)) (i : ℕ) → get_or es i None ≡ None → recovered_at given es i ≡ get_or given i zero_f
none_kept given es i e =
    let s : start_of es i ≡ i = start_alone es i e in
    let t : end_of es i ≡ i + 1 = end_alone es i e in
    let one : i + 1 - i ≡ 1 = omega arith in
    let short : leb 3 (end_of es i - start_of es i) ≡ false = ap (leb 3) (ap₂ ◌-◌ t s ∙ one) in
    off_island given es i (rw short)

by_estimate : (P : Float → Type 0) (given : List Float) (es : List (Option Float)) (i : ℕ) → ((x : Float) → get_or es i None ≡ Some x → P (narrow x))
    → (recovered_at given es i ≡ get_or given i zero_f) ⊎ P (recovered_at given es i)
by_estimate P given es i r = go (get_or es i None) refl
  where
    go : (e : Option Float) → get_or es i None ≡ e → (recovered_at given es i ≡ get_or given i zero_f) ⊎ P (recovered_at given es i)
    go None q = inl (none_kept given es i q)
    go (Some x) q = pick (island given (start_of es i) (end_of es i)) refl
      where
        pick : (b : Bool) → island given (start_of es i) (end_of es i) ≡ b → (recovered_at given es i ≡ get_or given i zero_f) ⊎ P (recovered_at given es i)
        pick true t = inr (subst P (sym (ap (λ (b : Bool). cond b (stored (get_or es i None)) (get_or given i zero_f)) t ∙ ap stored q)) (r x q))
        pick false t = inl (off_island given es i t)

module _ (period : ℕ → Option Float) (p : List Float) (s v : List ℕ) where
  pub length_recovered : length (recovered_by period p s v) ≡ length p
  unfolding recovered_by recovered_from
  length_recovered = length_tabulate (recovered_at p (estimates period p s v)) (length p)

  module _ (i : ℕ) (h : i < length p) where
    pub recovered_at_lem : at (recovered_by period p s v) i ≡ recovered_at p (estimates period p s v) i
    unfolding recovered_by recovered_from
    recovered_at_lem = tabulate_at (recovered_at p (estimates period p s v)) (length p) i nan h

    pub given_at : get_or p i zero_f ≡ at p i
    given_at = get_d_any p i zero_f nan h

    -- a frame that had a pitch keeps it
    pub pitch_kept : pitchless p i ≡ false → at (recovered_by period p s v) i ≡ at p i
    pitch_kept q = recovered_at_lem ∙ none_kept p (estimates period p s v) i (estimate_of period p s v i h ∙ untried period p s v i q) ∙ given_at

    -- any frame keeps what it had, or gets a rounded answer of the estimator
    pub kept_or_found : (P : Float → Type 0) → ((k : ℕ) (x : Float) → period k ≡ Some x → P (narrow x)) → (at (recovered_by period p s v) i ≡ at p i) ⊎ P (at (recovered_by period p s v) i)
    kept_or_found P f =
        ⊎_elim (λ q. inl (recovered_at_lem ∙ q ∙ given_at)) (λ q. inr (subst P (sym recovered_at_lem) q))
        (by_estimate P p (estimates period p s v) i (λ x e. estimate_has period p s v (λ y. P (narrow y)) f i x (sym (estimate_of period p s v i h) ∙ e)))

  -- so what every pitch as given has, and every rounded answer, every pitch has
  pub each_recovered : (P : Float → Type 0) → ((k : ℕ) (x : Float) → period k ≡ Some x → P (narrow x)) → Each P p → Each P (recovered_by period p s v)
  each_recovered P f h =
      at_each P (recovered_by period p s v) nan (λ i l.
      let l' : i < length p = subst (λ (n : ℕ). i < n) length_recovered l in
      ⊎_elim (λ q. subst P (sym q) (each_at P p nan h i l')) (λ b. b) (kept_or_found i l' P f))

  -- where the estimator finds nothing, nothing is recovered
  pub none_recovered : ((k : ℕ) → period k ≡ None) → recovered_by period p s v ≡ p
  none_recovered none =
      ext_get_or nan (recovered_by period p s v) p length_recovered (λ i l.
      ⊎_elim (λ q. q) (λ b. absurd b) (kept_or_found i (subst (λ (n : ℕ). i < n) length_recovered l) (λ _. ⊥) (λ k x e. let q : None ≡ Some x = sym (none k) ∙ e in cc)))

  -- and so where no frame is tried
  pub untried_kept : some_frame (tried p s v) 0 (length p) ≡ false → recovered_by period p s v ≡ p
  untried_kept none =
      ext_get_or nan (recovered_by period p s v) p length_recovered (λ i l.
      let h : i < length p = subst (λ (n : ℕ). i < n) length_recovered l in
      let e : tried p s v i ≡ false = not_holds (tried p s v i) (λ q. true≢false (sym (some_at (tried p s v) 0 (length p) i (omega arith) (omega arith) q) ∙ none)) in
      recovered_at_lem i h ∙ none_kept p (estimates period p s v) i (estimate_of period p s v i h ∙ ap (λ (b : Bool). cond b (period (160 * i)) None) e) ∙ given_at i h)

  -- which a search from the front tells
  pub unfound_kept : first_in (tried p s v) 0 (length p) ≡ None → recovered_by period p s v ≡ p
  unfound_kept e =
      let none = first_none (tried p s v) 0 (length p) (ap (first_in (tried p s v) 0) (sub-zero (length p)) ∙ e) in
      untried_kept (none_passes (tried p s v) 0 (length p) (λ i a b. none i a (omega arith)))

-- ---- rounding to f32 keeps a pitch in the range, whose ends are f32 values
rounded_range : (a c : ℕ) → 0 < c → 60 * c ≤ a * 1 → a * 1 ≤ 600 * c → Between 60 600 (round binary32 false a c)
unfolding le round
rounded_range a c C g h =
    enclosed 60 600 (round binary32 false 60 1) (round binary32 false a c) (round binary32 false 600 1) tt tt tt tt tt tt (round_mono binary32 60 1 a c (lit< tt) C g) (round_mono binary32 a c 600 1 C (lit< tt) h)

pub narrow_range : (x : Float) → Between 60 600 x → Between 60 600 (narrow x)
narrow_range x b =
    let p : T (positive x) = between (hz 60) x (hz 600) tt tt b.0 b.1 in
    subst (Between 60 600) (sym (narrow_value x false (num x) (den x) (den_pos x) (own_value x p)))
    (rounded_range (num x) (den x) (den_pos x) (le→cross (hz 60) x tt p b.0) (le→cross x (hz 600) p tt b.1))

-- a track of which each entry is 0 or from lo to hi Hz stays one, where that range holds 60 to 600
pub admitted_recovered : (lo hi : ℕ) → T (positive (hz lo)) → T (positive (hz hi)) → T (le (hz lo) (hz 60)) → T (le (hz 600) (hz hi))
    → (period : ℕ → Option Float) → ((k : ℕ) → InRange (period k)) → (p : List Float) (s v : List ℕ) → Each (PitchOrNone lo hi) p → Each (PitchOrNone lo hi) (recovered_by period p s v)
admitted_recovered lo hi LO HI from to period range p s v =
    each_recovered period p s v (PitchOrNone lo hi)
    (λ k x e. let b = narrow_range x (range k x e) in inr (enclosed lo hi (hz 60) (narrow x) (hz 600) LO HI tt tt from to b.0 b.1))
