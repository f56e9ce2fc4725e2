-- Local extrema: the frames of a flat stretch all know its two ends, so that at most its middle is listed, and the walk from stretch to stretch lists what the definition keeps.
-- The frames listed rise strictly, and lie in lo .. hi and below the length (`extrema_rise`), so that there are no more of them than frames (`extrema_fit`). Assumes nothing.
use Prim.Native.Nat.{ℕ, ◌+◌, ◌-◌, ◌≤◌, ◌<◌, min}
use native.Mathlib.Omega.{arith}
use mathlib.Core.Path.{◌≡◌, refl, sym, ap, ap₂, ◌∙◌}
use mathlib.Core.Bool.{Bool, true, false, ◌&&◌, ◌||◌, true≢false}
use mathlib.Core.List.{List, [], ◌∷◌, ◌++◌, append_assoc, append-nil}
use borrow.Author.Tests.{leb-true, leb-false, lt-leb, ltb-true, eq-eqb, ne_eqb}
use lib.Dec.{leb, ltb}
use lib.ListN.{length, length-append}
use lib.Ieee.{Float}
use Rattle.lists.specs.Results.{keep, cons_if}
use Rattle.lists.specs.Sorted.{StrictlyRises}
use Rattle.lists.proofs.Tests.{and_cases}
use Rattle.lists.proofs.Entries.{each_map}
use Rattle.lists.proofs.Members.{strict_between, each_keep, keep_rises}
use Rattle.lists.proofs.Walks.{Seeking, seek_start, seek_on, seek_past, seek_found, back_found}
use Rattle.lists.proofs.Fill.{keep_step, keep_over, keep_fits, keep_pass}
use Rattle.smooth.specs.declared.extrema.Extremum.{Extremum}
use Rattle.smooth.specs.Extrema.{changes_after, flat_last, middle, peaks_at, is_extremum, inside, local_extrema}
use Rattle.smooth.specs.Offered.{offered}

-- ---- frames of which at most one passes
module _ (t : ℕ → Bool) (n : ℕ) where
  -- of the frames i to j at most m passes
  keep_one : (i j m : ℕ) → i ≤ m → m ≤ j → j < n → ((k : ℕ) → i ≤ k → k ≤ j → (k ≡ m → ⊥) → t k ≡ false) →
      keep t i (n - i) ≡ cons_if (t m) m (keep t (j + 1) (n - (j + 1)))
  keep_one i j m h l k f =
      let to : i + (m - i) ≡ m = omega arith in
      let past : m + 1 + (j - m) ≡ j + 1 = omega arith in
      keep_pass t i (m - i) n (λ x p q. f x p (omega arith) (λ e. omega arith))
      ∙ ap (λ (x : ℕ). keep t x (n - x)) to
      ∙ keep_step t m n (omega arith)
      ∙ ap (cons_if (t m) m) (keep_pass t (m + 1) (j - m) n (λ x p q. f x (omega arith) (omega arith) (λ e. omega arith)) ∙ ap (λ (x : ℕ). keep t x (n - x)) past)

-- ---- a flat stretch
-- the value changes after no frame from i to before j, but just before i it does
pub record Stretch (s : List Float) (i j : ℕ) : Type 0 where
  pub within : j < length s
  pub start : 0 < i → changes_after s (i - 1) ≡ true
  pub alike : Seeking (changes_after s) i (length s - 1) j

-- the stretch ends at j
abbrev pub Ends : List Float → ℕ → Type 0
Ends s j = (j + 1 < length s → changes_after s j ≡ true)

-- ---- the extrema of a stretch
module _ (s : List Float) (lo hi : ℕ) (kind : Extremum) where
  -- frame i is listed
  abbrev pub listed : ℕ → Bool
  listed i = is_extremum kind s i && inside lo hi i

  module _ {i j : ℕ} (c : Stretch s i j) (e : Ends s j) where
    extremum_in : (k : ℕ) → i ≤ k → k ≤ j → is_extremum kind s k ≡ peaks_at kind s i j k
    unfolding is_extremum
    extremum_in k p q =
        ap₂ (λ (f l : ℕ). peaks_at kind s f l k)
        (sym (back_found (λ m. changes_after s (m - 1)) k (record { high = p; after = λ m a b. c.alike.before (m - 1) (omega arith) (omega arith) }) c.start))
        (sym (seek_found (changes_after s) k (length s - 1) (record { low = q; high = c.alike.high; before = λ m a b. c.alike.before m (omega arith) b }) (λ h. e (omega arith))))

    -- no frame but the middle
    listed_not : (k : ℕ) → i ≤ k → k ≤ j → (k ≡ middle i j → ⊥) → listed k ≡ false
    listed_not k p q d = rw (extremum_in k p q, ne_eqb (middle i j) k (λ e. d (sym e)))

    listed_middle : listed (middle i j) ≡ offered kind s lo hi i j
    listed_middle =
        let o : i ≤ j = c.alike.low in
        rw (extremum_in (middle i j) (omega arith) (omega arith), eq-eqb (middle i j) (middle i j) refl)

    stretch_cut : keep listed i (length s - i) ≡ cons_if (offered kind s lo hi i j) (middle i j) (keep listed (j + 1) (length s - (j + 1)))
    stretch_cut =
        let o : i ≤ j = c.alike.low in
        keep_one listed (length s) i j (middle i j) (omega arith) (omega arith) c.within listed_not
        ∙ ap (λ (b : Bool). cons_if b (middle i j) (keep listed (j + 1) (length s - (j + 1)))) listed_middle

  -- ---- the walk: the stretch i to j goes on, and what is left to find begins at i
  pub record Scan (found : List ℕ) (i j : ℕ) : Type 0 where
    pub stretch : j < length s → Stretch s i j
    pub over : length s ≤ j → length s ≤ i
    pub todo : found ++ keep listed i (length s - i) ≡ local_extrema s lo hi kind

  pub scan_start : Scan [] 0 0
  unfolding local_extrema
  scan_start =
      let e : length s - 0 ≡ length s = omega arith in
      record {
        stretch = λ h. record { within = h; start = λ l. absurd (omega arith); alike = seek_start (changes_after s) 0 (length s - 1) (omega arith) };
        over = λ h. h;
        todo = ap (keep listed 0) e;
      }

  module _ {found : List ℕ} {i j : ℕ} (c : Scan found i j) where
    pub scan_end : length s ≤ j → found ≡ local_extrema s lo hi kind
    scan_end h = sym (append-nil found) ∙ ap (λ (l : List ℕ). found ++ l) (sym (keep_over listed i (length s) (c.over h))) ∙ c.todo

    module _ (h : j < length s) {b : Bool} (e : b ≡ (leb (length s) (j + 1) || changes_after s j)) where
      ends : b ≡ true → Ends s j
      ends t l =
          let x : leb (length s) (j + 1) ≡ false = lt-leb (length s) (j + 1) l in
          rw x at (sym e ∙ t)

      goes : b ≡ false → (j + 1 < length s) × (changes_after s j ≡ false)
      goes t = go (leb (length s) (j + 1)) refl (sym e ∙ t)
        where
          go : (a : Bool) → leb (length s) (j + 1) ≡ a → (a || changes_after s j) ≡ false → (j + 1 < length s) × (changes_after s j ≡ false)
          go true x y = absurd (true≢false y)
          go false x y = (leb-false (length s) (j + 1) x, y)

      -- the stretch ends, and what comes of it is found
      next : b ≡ true → {found' : List ℕ} → found' ++ keep listed (j + 1) (length s - (j + 1)) ≡ local_extrema s lo hi kind → Scan found' (j + 1) (j + 1)
      next t w = record {
        stretch = λ l. record { within = l; start = λ z. let d : j + 1 - 1 ≡ j = omega arith in rw d (ends t l); alike = seek_start (changes_after s) (j + 1) (length s - 1) (omega arith) };
        over = λ l. l;
        todo = w;
      }

      module _ (t : b ≡ true) {o : Bool} (f : o ≡ offered kind s lo hi i j) where
        left : found ++ cons_if o (middle i j) (keep listed (j + 1) (length s - (j + 1))) ≡ local_extrema s lo hi kind
        left = rw (f, ← stretch_cut (c.stretch h) (ends t)) c.todo

        pub scan_room : o ≡ true → length found < length s
        unfolding local_extrema
        scan_room w =
            let l : found ++ (middle i j ∷ keep listed (j + 1) (length s - (j + 1))) ≡ local_extrema s lo hi kind = rw w at left in
            omega (arith, simp length-append at (ap length l), keep_fits listed 0 (length s))

        pub scan_found : o ≡ true → {m : ℕ} → m ≡ middle i j → {found' : List ℕ} → found' ≡ found ++ (m ∷ []) → Scan found' (j + 1) (j + 1)
        scan_found w q n = next t (rw (n, q, append_assoc) (rw w at left))

        pub scan_none : o ≡ false → Scan found (j + 1) (j + 1)
        scan_none w = next t (rw w at left)

      pub scan_on : b ≡ false → (r : ℕ) → (r ≡ flat_last s (j + 1) (length s - 1 - (j + 1))) × ((j + 1 ≤ r) × (r ≤ length s - 1)) → Scan found i r
      scan_on t r f =
          let g = goes t in
          let o = c.stretch h in
          record {
            stretch = λ l. record { within = l; start = o.start; alike = seek_past _ _ _ (seek_on _ _ _ o.alike (omega (arith, g.0)) g.1) _ f.1.1 f.0 };
            over = λ l. absurd (omega (arith, l, f.1.1, h));
            todo = c.todo;
          }

-- ---- what is listed
module _ (s : List Float) (lo hi : ℕ) (kind : Extremum) where
  pub extrema_rise : StrictlyRises lo (min hi (length s)) (local_extrema s lo hi kind)
  unfolding local_extrema
  extrema_rise =
      strict_between 0 (length s) lo (min hi (length s)) (keep (listed s lo hi kind) 0 (length s)) (keep_rises (listed s lo hi kind) (length s) 0 (length s) (omega arith))
      (each_map (λ x. (0 ≤ x) × (x < 0 + length s) × (listed s lo hi kind x ≡ true)) (λ x. (lo ≤ x) × (x < min hi (length s))) (λ x h. bounds x (omega (arith, h.1)) h.2)
      (keep (listed s lo hi kind) 0 (length s)) (each_keep (listed s lo hi kind) 0 (length s)))
    where
      bounds : (j : ℕ) → j < length s → listed s lo hi kind j ≡ true → (lo ≤ j) × (j < min hi (length s))
      bounds j h e =
          let c = and_cases (leb lo j) (ltb j hi) (and_cases (is_extremum kind s j) (inside lo hi j) e).1 in
          (leb-true lo j c.0, omega (arith, ltb-true j hi c.1))

  pub extrema_fit : length (local_extrema s lo hi kind) ≤ length s
  unfolding local_extrema
  extrema_fit = keep_fits (listed s lo hi kind) 0 (length s)
