-- What holds of the extras and their edges. Both rise strictly below the length of the take, so lists of that length have room. To put the extras in order
-- is to sort them: no frame stands there twice, and none is lost; nor is an edge. Where each nucleus has a pitch within 2 frames, as in the chain, no extra
-- stands on a nucleus. Assumes nothing.
use Prim.Native.Nat.{ℕ, ◌+◌, ◌-◌, ◌/◌, ◌<◌, ◌≤◌}
use native.Mathlib.Omega.{arith}
use mathlib.Core.Path.{◌≡◌, refl, sym, ap, subst, ◌∙◌}
use mathlib.Core.Bool.{Bool, true, false, ◌&&◌, ◌||◌, cond, and-false, true≢false, false≢true}
use mathlib.Core.List.{List, [], ◌∷◌, ◌++◌, map}
use mathlib.Core.Logic.{⊎_elim}
use lib.ListN.{length, length-map}
use lib.Dec.{ltb, eqb}
use lib.Ieee.{Float}
use borrow.Author.Tests.{le-leb, ltb-true, ltb-false, lt-ltb, eqb-true, eq-eqb}
use Rattle.lists.specs.Results.{cons_if, filter}
use Rattle.lists.specs.By.{Each}
use Rattle.lists.specs.Sorted.{StrictlyRises, IsSorted}
use Rattle.lists.specs.Marks.{member, in_order, Once}
use Rattle.lists.proofs.Tests.{and_cases, and_both, or_cases, or_left, or_right, not_holds}
use Rattle.lists.proofs.Entries.{each_all, each_append}
use Rattle.lists.proofs.Members.{member_append, member_filter, member_reverse, each_member, member_each, strict_from, strict_each, strict_below, strict_few, strict_once, filter_rises, in_order_is, in_order_all, in_order_sorted}
use Rattle.smooth.specs.Level.{levels}
use Rattle.smooth.specs.Extrema.{argmin_middle}
use Rattle.smooth.specs.declared.extrema.Extremum.TheVariants.{Min}
use Rattle.smooth.proofs.Averages.{length_levels}
use Rattle.smooth.proofs.Best.{middle_within}
use Rattle.region.specs.Percentile.{floor_of}
use Rattle.region.specs.Speech.{bounds_over}
use Rattle.region.specs.declared.Settings.{Settings}
use Rattle.runs.specs.declared.voiced.Span.{Span}
use Rattle.runs.specs.Runs.{long_runs, Spaced}
use Rattle.runs.specs.Near.{distance}
use Rattle.runs.proofs.Spacing.{long_spaced}
use Rattle.region.specs.declared.Bounds.{Bounds}
use Rattle.nuclei.specs.Merging.{push_by, merge_by, merged}
use Rattle.nuclei.specs.Peaks.{pitch_near}
use Rattle.nuclei.specs.Nuclei.{nucleus_at, over_floor, frames_of, nuclei_of}
use Rattle.nuclei.proofs.Pitched.{PitchedRun, long_pitched}
use Rattle.nuclei.proofs.Promises.{over_floor_lem, frames_back, take_rises, take_pitched}
use Rattle.std.specs.Prelude.{Option, None, Some}
use Rattle.extra.specs.declared.seconds.Second.{Second}
use Rattle.extra.specs.Unpitched.{unpitched_peaks}
use Rattle.extra.specs.Split.{split_of}
use Rattle.extra.specs.Merging.{one_syllable, survivor, anchors}
use Rattle.extra.specs.Seconds.{holds, only_one, held_by, other_part, after_cut, besides, second_in, with_some, frame_of, edge_of, seconds}
use Rattle.extra.specs.Extra.{edges_between, extras_from, edges_from, extra_frames, extra_edges, if_as_long, extras_of, edges_of}
use Rattle.extra.proofs.Voiceless.{peaks_off}
use Rattle.extra.proofs.Cuts.{split_within}
use Rattle.extra.proofs.Whole.{anchors_rise}

-- ---- a second syllable lies in its run
-- its frame and its edge do, and its frame is not the nucleus
pub record Inside (r : Span) (nucleus f e : ℕ) : Type 0 where
  pub after : r.first ≤ f
  pub before : f ≤ r.last
  pub apart : f ≡ nucleus → ⊥
  pub edge_after : r.first ≤ e
  pub edge_before : e ≤ r.last

middle_inside : (r : Span) (nucleus k : ℕ) → r.first + 6 ≤ k → k + 5 ≤ r.last → Inside r nucleus (other_part r nucleus k) k
middle_inside r nucleus k h i = go (ltb nucleus k) refl
  where
    go : (b : Bool) → ltb nucleus k ≡ b → Inside r nucleus (cond b ((k + r.last) / 2) ((r.first + (k - 1)) / 2)) k
    go true e = record { after = omega arith; before = omega arith; apart = λ q. omega (arith, ltb-true nucleus k e, q); edge_after = omega arith; edge_before = omega arith }
    go false e = record { after = omega arith; before = omega arith; apart = λ q. omega (arith, ltb-false nucleus k e, q); edge_after = omega arith; edge_before = omega arith }

module _ (son : List Float) (kept : List ℕ) (r : Span) where
  -- the anchor that a second syllable stands beside
  abbrev Beside : Option Second → Type 0
  Beside (Some x) = (g : ℕ) × (held_by kept r ≡ Some g) × Inside r g x.frame x.edge
  Beside None = Unit

  pub second_beside : Beside (second_in son kept r)
  unfolding second_in
  second_beside = by_held (held_by kept r) refl
    where
      by_cut : (g : ℕ) → held_by kept r ≡ Some g → (c : Option ℕ) → split_of son r g ≡ c → Beside (after_cut r g c)
      by_cut g h (Some k) e = let w = split_within son r g e in (g, h, middle_inside r g k w.0 w.1)
      by_cut g h None e = tt

      by_held : (h : Option ℕ) → held_by kept r ≡ h → Beside (besides son r h)
      by_held (Some g) h = by_cut g h (split_of son r g) refl
      by_held None h = tt

-- ---- the second syllables of runs that are spaced
module _ (son : List Float) (kept : List ℕ) where
  -- what holds of the frame and the edge of each
  seconds_each : (P : ℕ → Type 0) (g : Second → ℕ) (Q : Span → Type 0) → ((r : Span) → Q r → (x : Second) (k : ℕ) → held_by kept r ≡ Some k → Inside r k x.frame x.edge → P (g x)) → (rs : List Span) → Each Q rs → Each P (map g (seconds son kept rs))
  unfolding seconds
  seconds_each P g Q p [] q = tt
  seconds_each P g Q p (r ∷ rs) q = go (second_in son kept r) (second_beside son kept r) (seconds_each P g Q p rs q.1)
    where
      go : (x : Option Second) → Beside son kept r x → Each P (map g (seconds son kept rs)) → Each P (map g (with_some x (seconds son kept rs)))
      go (Some x) b on = (p r q.0 x b.0 b.1 b.2, on)
      go None b on = on

  seconds_rise : (g : Second → ℕ) → ((r : Span) (k : ℕ) (x : Second) → Inside r k x.frame x.edge → (r.first ≤ g x) × (g x ≤ r.last)) → (lo n : ℕ) (rs : List Span) → Spaced lo n rs → StrictlyRises lo n (map g (seconds son kept rs))
  unfolding seconds
  seconds_rise g w lo n [] s = tt
  seconds_rise g w lo n (r ∷ rs) s = go (second_in son kept r) (second_beside son kept r) (seconds_rise g w (r.last + 4) n rs s.3)
    where
      go : (x : Option Second) → Beside son kept r x → StrictlyRises (r.last + 4) n (map g (seconds son kept rs)) → StrictlyRises lo n (map g (with_some x (seconds son kept rs)))
      go (Some x) b on =
          let v = w r b.0 x b.2 in
          (omega (arith, v.0, s.0), omega (arith, v.1, s.2), strict_from (g x + 1) (r.last + 4) n (map g (seconds son kept rs)) (omega (arith, v.1)) on)
      go None b on = strict_from lo (r.last + 4) n (map g (seconds son kept rs)) (omega (arith, s.0, s.1)) on

  pub second_frames_rise : (lo n : ℕ) (rs : List Span) → Spaced lo n rs → StrictlyRises lo n (map frame_of (seconds son kept rs))
  second_frames_rise = seconds_rise frame_of (λ r k x i. (i.after, i.before))

  pub second_edges_rise : (lo n : ℕ) (rs : List Span) → Spaced lo n rs → StrictlyRises lo n (map edge_of (seconds son kept rs))
  second_edges_rise = seconds_rise edge_of (λ r k x i. (i.edge_after, i.edge_before))

-- ---- the edges between anchors
between_below : (s : List Float) (peak : ℕ → Bool) (lo : ℕ) (kept : List ℕ) → StrictlyRises lo (length s) kept → Each (λ x. x < length s) (edges_between s peak kept)
unfolding edges_between
between_below s peak lo [] r = tt
between_below s peak lo (a ∷ []) r = tt
between_below s peak lo (a ∷ b ∷ bs) r = go (peak a || peak b) (between_below s peak (a + 1) (b ∷ bs) r.2)
  where
    go : (c : Bool) → Each (λ x. x < length s) (edges_between s peak (b ∷ bs)) → Each (λ x. x < length s) (cons_if c (argmin_middle s a b) (edges_between s peak (b ∷ bs)))
    go true on = (omega (arith, (middle_within Min s a b (omega (arith, r.2.0)) r.2.1).1, r.2.1), on)
    go false on = on

-- ---- nothing stands twice, and nothing is lost
once_append : (xs ys : List ℕ) → Once xs → Once ys → ((f : ℕ) → member xs f ≡ true → member ys f ≡ true → ⊥) → Once (xs ++ ys)
unfolding member
once_append [] ys a b h = b
once_append (x ∷ xs) ys a b h = (
  not_holds (member (xs ++ ys) x) (λ e. ⊎_elim (λ i. true≢false (sym i ∙ a.0)) (λ i. h x (or_left (eqb x x) (member xs x) (eq-eqb x x refl)) i) (or_cases (member xs x) (member ys x) (sym (member_append xs ys x) ∙ e))),
  once_append xs ys a.1 b (λ f i j. h f (or_right (eqb x f) (member xs f) i) j),
)

module _ (s pitch son : List Float) (same : length pitch ≡ length s) where
  spaced : Spaced 0 (length s) (long_runs pitch)
  spaced = subst (λ (n : ℕ). Spaced 0 n (long_runs pitch)) same (long_spaced pitch)

  module _ (peaks kept : List ℕ) (rises : StrictlyRises 0 (length s) kept) where
    lone_rise : StrictlyRises 0 (length s) (filter (member peaks) kept)
    lone_rise = filter_rises (member peaks) 0 (length s) kept rises

    pub extras_below : Each (λ x. x < length s) (extras_from pitch son peaks kept)
    unfolding extras_from
    extras_below =
        each_append (λ x. x < length s) (filter (member peaks) kept) (map frame_of (seconds son kept (long_runs pitch)))
        (strict_below 0 (length s) (filter (member peaks) kept) lone_rise)
        (strict_below 0 (length s) (map frame_of (seconds son kept (long_runs pitch))) (second_frames_rise son kept 0 (length s) (long_runs pitch) spaced))

    pub edges_below : Each (λ x. x < length s) (edges_from s pitch son peaks kept)
    unfolding edges_from
    edges_below =
        each_append (λ x. x < length s) (edges_between s (member peaks) kept) (map edge_of (seconds son kept (long_runs pitch)))
        (between_below s (member peaks) 0 kept rises)
        (strict_below 0 (length s) (map edge_of (seconds son kept (long_runs pitch))) (second_edges_rise son kept 0 (length s) (long_runs pitch) spaced))

    -- a second syllable has a pitch near, and an unpitched peak has none
    pub extras_once : Each (λ x. pitch_near pitch x ≡ false) peaks → Once (extras_from pitch son peaks kept)
    unfolding extras_from
    extras_once off =
        let ys = map frame_of (seconds son kept (long_runs pitch)) in
        once_append (filter (member peaks) kept) ys
        (strict_once 0 (length s) (filter (member peaks) kept) lone_rise)
        (strict_once 0 (length s) ys (second_frames_rise son kept 0 (length s) (long_runs pitch) spaced))
        (λ f i j. true≢false (sym (each_member (λ x. pitch_near pitch x ≡ true) ys f near j) ∙ each_member (λ x. pitch_near pitch x ≡ false) peaks f off (and_cases (member peaks f) (member kept f) (sym (member_filter (member peaks) kept f) ∙ i)).0))
      where
        near : Each (λ x. pitch_near pitch x ≡ true) (map frame_of (seconds son kept (long_runs pitch)))
        near = seconds_each son kept (λ x. pitch_near pitch x ≡ true) frame_of (PitchedRun pitch) (λ r q x k h i. q x.frame i.after i.before) (long_runs pitch) (long_pitched pitch)

  module _ (b : Bounds) (p : Settings) (nuclei : List ℕ) where
    -- the extras are the kept unpitched peaks and the second syllables, sorted
    pub extras_sorted :
        let peaks = unpitched_peaks s pitch son b in
        IsSorted (extras_from pitch son peaks (anchors s p nuclei peaks)) (extra_frames s pitch son b p nuclei)
    unfolding extra_frames
    extras_sorted =
        let peaks = unpitched_peaks s pitch son b in
        let kept = anchors s p nuclei peaks in
        let rises = anchors_rise s p nuclei peaks in
        in_order_sorted (extras_from pitch son peaks kept) (length s) (extras_below peaks kept rises) (extras_once peaks kept rises (peaks_off s pitch son b))

    -- no edge is lost
    pub edges_all : (x : ℕ) →
        let peaks = unpitched_peaks s pitch son b in
        member (extra_edges s pitch son b p nuclei) x ≡ member (edges_from s pitch son peaks (anchors s p nuclei peaks)) x
    unfolding extra_edges
    edges_all x =
        let peaks = unpitched_peaks s pitch son b in
        let kept = anchors s p nuclei peaks in
        in_order_all (edges_from s pitch son peaks kept) (length s) (edges_below peaks kept (anchors_rise s p nuclei peaks)) x

-- ---- a nucleus that is no unpitched peak is kept
module _ (s : List Float) (p : Settings) (peak : ℕ → Bool) (f : ℕ) (m : peak f ≡ false) where
  stays_first : (prev x : ℕ) → prev ≡ f → survivor s peak prev x ≡ f
  unfolding survivor
  stays_first prev x e = rw (e, m)

  stays_second : (prev x : ℕ) → x ≡ f → one_syllable s p peak prev x ≡ true → survivor s peak prev x ≡ f
  unfolding survivor one_syllable
  stays_second prev x e h = go (peak prev) refl
    where
      go : (c : Bool) → peak prev ≡ c → survivor s peak prev x ≡ f
      go true q = rw (q, e, m)
      go false q = absurd (false≢true (sym (rw (q, e, m)) ∙ h))

  push_keeps : (kept : List ℕ) (x : ℕ) → member (x ∷ kept) f ≡ true → member (push_by (one_syllable s p peak) (survivor s peak) kept x) f ≡ true
  unfolding push_by member
  push_keeps [] x e = e
  push_keeps (prev ∷ kept) x e = go (one_syllable s p peak prev x) refl (push_keeps kept (survivor s peak prev x))
    where
      one : ℕ → ℕ → Bool
      one = one_syllable s p peak

      left : ℕ
      left = survivor s peak prev x

      go : (c : Bool) → one prev x ≡ c → (member (left ∷ kept) f ≡ true → member (push_by one (survivor s peak) kept left) f ≡ true) → member (cond c (push_by one (survivor s peak) kept left) (x ∷ prev ∷ kept)) f ≡ true
      go true q on = on
          (⊎_elim
          (λ h. or_left (eqb left f) (member kept f) (eq-eqb left f (stays_second prev x (eqb-true x f h) q)))
          (λ h. ⊎_elim
          (λ i. or_left (eqb left f) (member kept f) (eq-eqb left f (stays_first prev x (eqb-true prev f i))))
          (λ i. or_right (eqb left f) (member kept f) i)
          (or_cases (eqb prev f) (member kept f) h))
          (or_cases (eqb x f) (eqb prev f || member kept f) e))
      go false q on = e

  merge_keeps : (kept xs : List ℕ) → (member kept f || member xs f) ≡ true → member (merge_by (one_syllable s p peak) (survivor s peak) kept xs) f ≡ true
  unfolding merge_by member
  merge_keeps kept [] e = ⊎_elim (λ h. h) (λ h. absurd (false≢true h)) (or_cases (member kept f) false e)
  merge_keeps kept (x ∷ xs) e =
      let next = push_by (one_syllable s p peak) (survivor s peak) kept x in
      merge_keeps next xs
      (⊎_elim
      (λ h. or_left (member next f) (member xs f) (push_keeps kept x (or_right (eqb x f) (member kept f) h)))
      (λ h. ⊎_elim
      (λ i. or_left (member next f) (member xs f) (push_keeps kept x (or_left (eqb x f) (member kept f) i)))
      (λ i. or_right (member next f) (member xs f) i)
      (or_cases (eqb x f) (member xs f) h))
      (or_cases (member kept f) (eqb x f || member xs f) e))

anchor_kept : (s : List Float) (p : Settings) (nuclei peaks : List ℕ) (f : ℕ) → member peaks f ≡ false → f < length s → member nuclei f ≡ true → member (anchors s p nuclei peaks) f ≡ true
unfolding anchors merged
anchor_kept s p nuclei peaks f m h e =
    let xs = in_order (nuclei ++ peaks) (length s) in
    let all = merge_by (one_syllable s p (member peaks)) (survivor s (member peaks)) [] xs in
    member_reverse all f
    ∙ merge_keeps s p (member peaks) f m [] xs
    (or_right (member [] f) (member xs f)
    ((in_order_is (nuclei ++ peaks) (length s)).holds f ∙ and_both (ltb f (length s)) (member (nuclei ++ peaks) f) (lt-ltb f (length s) h) (member_append nuclei peaks f ∙ or_left (member nuclei f) (member peaks f) e)))

-- the only one is the one
only_is : (xs : List ℕ) (g f : ℕ) → only_one xs ≡ Some g → member xs f ≡ true → f ≡ g
unfolding member
only_is [] g f e h = absurd (false≢true h)
only_is (x ∷ []) g f e h =
    let q : x ≡ g = cc in
    ⊎_elim (λ i. sym (eqb-true x f i) ∙ q) (λ i. absurd (false≢true i)) (or_cases (eqb x f) false h)
only_is (x ∷ y ∷ xs) g f e h =
    let z : ◌≡◌ {A = ℕ} 0 1 = cc in
    absurd (omega arith)

-- ---- no extra stands on a kept anchor that is no unpitched peak
module _ (pitch son : List Float) (peaks kept : List ℕ) (f : ℕ) (m : member peaks f ≡ false) (k : member kept f ≡ true) where
  off_run : (r : Span) (g x e : ℕ) → held_by kept r ≡ Some g → Inside r g x e → x ≡ f → ⊥
  unfolding held_by
  off_run r g x e h i q =
      let held : holds r f ≡ true = le-leb (distance r f) 2 (omega (arith, i.after, i.before, q)) in
      i.apart (q ∙ only_is (filter (holds r) kept) g f h (member_filter (holds r) kept f ∙ and_both (holds r f) (member kept f) held k))

  pub extras_off : member (extras_from pitch son peaks kept) f ≡ false
  unfolding extras_from
  extras_off =
      let xs = filter (member peaks) kept in
      let ys = map frame_of (seconds son kept (long_runs pitch)) in
      not_holds (member (xs ++ ys) f) (λ e.
      ⊎_elim
      (λ i. true≢false (sym (and_cases (member peaks f) (member kept f) (sym (member_filter (member peaks) kept f) ∙ i)).0 ∙ m))
      (λ i. each_member (λ x. x ≡ f → ⊥) ys f (seconds_each son kept (λ x. x ≡ f → ⊥) frame_of (λ r. Unit) (λ r u x g. off_run r g x.frame x.edge) (long_runs pitch) (each_all (λ r. Unit) (λ r. tt) (long_runs pitch))) i refl)
      (or_cases (member xs f) (member ys f) (sym (member_append xs ys f) ∙ e)))

-- ---- the extras of a take
module _ (db pitch son : List Float) (start end : ℕ) (nuclei : List ℕ) (p : Settings) where
  -- what holds of none and over any floor
  by_length : {A : Type 0} (P : List A → Type 0) (over : Float → List A) → P [] → ((x : Float) → P (over x)) → P (if_as_long db son (over_floor (floor_of db) over))
  by_length P over n f = go (eqb (length son) (length db))
    where
      go : (b : Bool) → P (cond b (over_floor (floor_of db) over) [])
      go true = over_floor_lem P (floor_of db) over n f
      go false = n

  by_floor : (P : List ℕ → Type 0) → P [] → ((x : Float) → P (extra_frames (levels db) pitch son (bounds_over x p start end) p nuclei)) → P (frames_of (extras_of db pitch son start end nuclei p))
  unfolding extras_of
  by_floor P n f =
      let frames : Float → List ℕ = λ x. extra_frames (levels db) pitch son (bounds_over x p start end) p nuclei in
      by_length (λ ns. P (frames_of ns)) (λ x. map (nucleus_at (levels db) x) (frames x)) n (λ x. subst P (sym (frames_back (levels db) x (frames x))) (f x))

  edges_by_floor : (P : List ℕ → Type 0) → P [] → ((x : Float) → P (extra_edges (levels db) pitch son (bounds_over x p start end) p nuclei)) → P (edges_of db pitch son start end nuclei p)
  unfolding edges_of
  edges_by_floor P n f = by_length P (λ x. extra_edges (levels db) pitch son (bounds_over x p start end) p nuclei) n f

  ordered : (cs : List ℕ) → StrictlyRises 0 (length db) (in_order cs (length (levels db)))
  ordered cs = subst (λ (n : ℕ). StrictlyRises 0 n (in_order cs (length (levels db)))) (length_levels db) (in_order_is cs (length (levels db))).rises

  -- they rise strictly, below the length of the take
  pub extras_rise : StrictlyRises 0 (length db) (frames_of (extras_of db pitch son start end nuclei p))
  unfolding extra_frames
  extras_rise = by_floor (StrictlyRises 0 (length db)) tt (λ x. ordered (extras_from pitch son (unpitched_peaks (levels db) pitch son (bounds_over x p start end)) (anchors (levels db) p nuclei (unpitched_peaks (levels db) pitch son (bounds_over x p start end)))))

  -- so do their edges
  pub edges_rise : StrictlyRises 0 (length db) (edges_of db pitch son start end nuclei p)
  unfolding extra_edges
  edges_rise = edges_by_floor (StrictlyRises 0 (length db)) tt (λ x. ordered (edges_from (levels db) pitch son (unpitched_peaks (levels db) pitch son (bounds_over x p start end)) (anchors (levels db) p nuclei (unpitched_peaks (levels db) pitch son (bounds_over x p start end)))))

  -- lists of the take's length have room
  pub extras_few : length (extras_of db pitch son start end nuclei p) ≤ length db
  extras_few = omega (arith, strict_few 0 (length db) (frames_of (extras_of db pitch son start end nuclei p)) (omega arith) extras_rise, length-map (extras_of db pitch son start end nuclei p) (λ n. n.frame))

  pub edges_few : length (edges_of db pitch son start end nuclei p) ≤ length db
  edges_few = omega (arith, strict_few 0 (length db) (edges_of db pitch son start end nuclei p) (omega arith) edges_rise)

  -- no extra stands on a nucleus with a pitch within 2 frames
  pub extras_apart : (f : ℕ) → f < length db → member nuclei f ≡ true → pitch_near pitch f ≡ true → member (frames_of (extras_of db pitch son start end nuclei p)) f ≡ false
  unfolding extra_frames member
  extras_apart f h e near = by_floor (λ fs. member fs f ≡ false) refl over
    where
      over : (x : Float) → member (extra_frames (levels db) pitch son (bounds_over x p start end) p nuclei) f ≡ false
      over x =
          let s = levels db in
          let peaks = unpitched_peaks s pitch son (bounds_over x p start end) in
          let kept = anchors s p nuclei peaks in
          let m : member peaks f ≡ false = not_holds (member peaks f) (λ q. true≢false (sym near ∙ each_member (λ y. pitch_near pitch y ≡ false) peaks f (peaks_off s pitch son (bounds_over x p start end)) q)) in
          let o = extras_off pitch son peaks kept f m (anchor_kept s p nuclei peaks f m (omega (arith, length_levels db)) e) in
          (in_order_is (extras_from pitch son peaks kept) (length s)).holds f ∙ ap (λ (b : Bool). ltb f (length s) && b) o ∙ and-false (ltb f (length s))

-- in the chain the nuclei are those of the take, and no extra stands on one
pub chain_apart : (db pitch son : List Float) (start end : ℕ) (p : Settings) → end ≤ length db →
    let nuclei = frames_of (nuclei_of db pitch start end p) in
    Each (λ f. member (frames_of (extras_of db pitch son start end nuclei p)) f ≡ false) nuclei
chain_apart db pitch son start end p w =
    let nuclei = frames_of (nuclei_of db pitch start end p) in
    member_each (λ f. member (frames_of (extras_of db pitch son start end nuclei p)) f ≡ false) nuclei (λ f e.
    extras_apart db pitch son start end nuclei p f
    (omega (arith, (each_member (λ x. (start ≤ x) × (x < end)) nuclei f (strict_each start end nuclei (take_rises db pitch start end p w)) e).1))
    e
    (each_member (λ x. pitch_near pitch x ≡ true) nuclei f (take_pitched db pitch start end p w) e))
