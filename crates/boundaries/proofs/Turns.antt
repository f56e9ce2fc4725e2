-- Candidates as keys: the walks that write them, that they are sound, and the frames that sorted keys give. Assumes nothing.
use Prim.Native.Nat.{ℕ, zero, suc, ◌+◌, ◌-◌, ◌≤◌, ◌<◌, min}
use native.Mathlib.Omega.{arith}
use mathlib.Core.Path.{◌≡◌, refl, sym, ap, subst, ◌∙◌}
use mathlib.Core.Bool.{Bool, true, false, not, ◌&&◌, cond}
use mathlib.Core.List.{List, [], ◌∷◌, ◌++◌, map, map-map, append-nil}
use lib.ListN.{length, get_or, drop, length-map, drop_of_length-le}
use lib.Dec.{T}
use lib.Ieee.{Float, nan, inf, fin, binary32, fits, sub}
use lib.Ieee.Fits.{sub-fits, cond-fits}
use lib.Ieee.Scale.{finite}
use Rattle.floats.specs.Plain.{zero_f, magnitude, or_zero}
use Rattle.lists.specs.Results.{keep, filter}
use Rattle.lists.specs.By.{Each}
use Rattle.lists.specs.Sorted.{sorted}
use Rattle.lists.specs.Candidates.{Candidate, key_of, frame_in, in_turn, Sound}
use Rattle.lists.proofs.Fill.{drop_step, keep_step, keep_over, keep_fits, filter_step, filter_over, filter_le}
use Rattle.lists.proofs.Entries.{each_map, each_at, each_of_map, each_kept}
use Rattle.lists.proofs.Members.{each_keep, strict_each}
use Rattle.lists.proofs.Sorting.{sorted_is}
use Rattle.lists.proofs.Turns.{keys_in_turn, turn_each}
use Rattle.smooth.specs.Extrema.{local_extrema}
use Rattle.smooth.specs.declared.extrema.Extremum.TheVariants.{Min}
use Rattle.smooth.proofs.Stretches.{extrema_rise}
use Rattle.region.specs.Speech.{speech_at}
use Rattle.runs.specs.Runs.{voiced}
use Rattle.runs.proofs.Pushing.{push_room, push_on}
use Rattle.boundaries.specs.declared.taken.Kept.{Kept}
use Rattle.boundaries.specs.Taken.{AddedInTurn, Keyed}
use Rattle.boundaries.specs.Edges.{between, changed, jump, loud_beside, pause_edge, pause_edges, voicing_edge, voicing_edges}
use Rattle.boundaries.specs.Minima.{prominence_at, minimum, in_long_span, minima}
use Rattle.boundaries.proofs.Cells.{Trying, trying_some, trying_end}

pub jump_same : (v w x y : Float) → v ≡ w → x ≡ y → jump v x ≡ jump w y
jump_same v w x y p q = ap (λ (a : Float). jump a x) p ∙ ap (jump w) q

-- ---- the frames of keys, tried one after the other
pub frame_at : (keys : List ℕ) → Each (λ f. f ≤ 2048) (map frame_in keys) → (i : ℕ) → i < length keys → frame_in (get_or keys i 0) ≤ 2048
frame_at [] h i g = absurd (none i g)
  where
    none : (i : ℕ) → i < 0 → ⊥
    none i g = omega arith
frame_at (k ∷ keys) h zero g = h.0
frame_at (k ∷ keys) h (suc i) g = frame_at keys h.1 i (less i (length keys) g)
  where
    less : (i n : ℕ) → suc i < suc n → i < n
    less i n g = omega arith

module _ (keys : List ℕ) (i : ℕ) {whole : List ℕ} {old k : Kept} (t : Trying whole (map frame_in (drop i keys)) old k) where
  pub keys_on : i < length keys → {f : ℕ} {k' : Kept} → f ≡ frame_in (get_or keys i 0) → AddedInTurn (f ∷ []) k k' → Trying whole (map frame_in (drop (i + 1) keys)) old k'
  keys_on h {f} {k'} e a =
      trying_some (subst (λ (rest : List ℕ). Trying whole rest old k) (ap (map frame_in) (drop_step keys i 0 h)) t)
      (subst (λ (x : ℕ). AddedInTurn (x ∷ []) k k') e a)

  pub keys_end : length keys ≤ i → AddedInTurn whole old k
  keys_end h = trying_end (subst (λ (rest : List ℕ). Trying whole rest old k) (ap (map frame_in) (drop_of_length-le keys h)) t)

-- ---- the keys of frames strictly inside the region
-- the keys so far, with those of the frames from i on, are the keys of all
abbrev pub Keying : (ℕ → Bool) → (ℕ → ℕ) → List ℕ → ℕ → ℕ → ℕ → Type 0
Keying t f keys start end i = keys ++ map f (keep t i (end - i)) ≡ map f (between start end t)

module _ (t : ℕ → Bool) (f : ℕ → ℕ) (start end : ℕ) where
  pub keying_start : Keying t f [] start end (start + 1)
  unfolding between
  keying_start = refl

  module _ (keys : List ℕ) (i : ℕ) (g : Keying t f keys start end i) where
    pub keying_room : i < end → t i ≡ true → end ≤ 2048 → length keys < 2048
    unfolding between
    keying_room h e l =
        let p : length (map f (between start end t)) ≤ end = rw length-map (omega (arith, keep_fits t (start + 1) (end - (start + 1)))) in
        push_room keys (f i) (map f (keep t (i + 1) (end - (i + 1)))) (rw (keep_step t i end h, e) at g) 2048 (omega arith)

    pub keying_yes : i < end → t i ≡ true → Keying t f (keys ++ (f i ∷ [])) start end (i + 1)
    keying_yes h e = push_on keys (f i) (map f (keep t (i + 1) (end - (i + 1)))) (rw (keep_step t i end h, e) at g)

    pub keying_no : i < end → t i ≡ false → Keying t f keys start end (i + 1)
    keying_no h e = rw (keep_step t i end h, e) at g

    pub keying_end : end ≤ i → keys ≡ map f (between start end t)
    keying_end h = sym (append-nil keys) ∙ (rw (keep_over t i end h) at g)

-- the keys of edges are all written
module _ (t : ℕ → Bool) (edge : ℕ → Candidate) (start end : ℕ) (keys : List ℕ) (i : ℕ) (g : Keying t (λ i. key_of (edge i)) keys start end i) where
  pub keying_keys : end ≤ i → {ks : List ℕ} → ks ≡ keys → ks ≡ map key_of (map edge (between start end t))
  keying_keys h e = e ∙ keying_end t (λ i. key_of (edge i)) start end keys i g h ∙ sym (map-map key_of edge (between start end t))

-- ---- the keys of those minima that pass
module _ (s : List Float) (t : ℕ → Bool) where
  abbrev pub keyed : List ℕ → List ℕ
  keyed l = map key_of (map (minimum s) (filter t l))

  module _ (mins keys : List ℕ) (i : ℕ) (g : keys ++ keyed (drop i mins) ≡ keyed mins) where
    pub keyed_room : i < length mins → t (get_or mins i 0) ≡ true → length mins ≤ 2048 → length keys < 2048
    keyed_room h e l =
        let p : length (keyed mins) ≤ length mins = rw (length-map, length-map) (filter_le t mins) in
        push_room keys (key_of (minimum s (get_or mins i 0))) (keyed (drop (i + 1) mins)) (rw (filter_step t mins i 0 h, e) at g) 2048 (omega arith)

    pub keyed_yes : i < length mins → t (get_or mins i 0) ≡ true → (keys ++ (key_of (minimum s (get_or mins i 0)) ∷ [])) ++ keyed (drop (i + 1) mins) ≡ keyed mins
    keyed_yes h e = push_on keys (key_of (minimum s (get_or mins i 0))) (keyed (drop (i + 1) mins)) (rw (filter_step t mins i 0 h, e) at g)

    pub keyed_no : i < length mins → t (get_or mins i 0) ≡ false → keys ++ keyed (drop (i + 1) mins) ≡ keyed mins
    keyed_no h e = rw (filter_step t mins i 0 h, e) at g

    pub keyed_end : length mins ≤ i → keys ≡ keyed mins
    keyed_end h = sym (append-nil keys) ∙ (rw (filter_over t mins i h) at g)

-- the test of a pause edge, and of a voicing edge
abbrev pub pause_here : List Float → Float → ℕ → Bool
pause_here db threshold = changed (speech_at threshold db)

abbrev pub voicing_here : List Float → (ℕ → Bool) → ℕ → Bool
voicing_here pitch skip i = changed (voiced pitch) i && not (skip i)

-- ---- candidates are sound, and lie where the region is
fits_size : (x : Float) → T (fits binary32 x) → T (fits binary32 (magnitude x))
unfolding fits
fits_size nan h = tt
fits_size (inf s) h = tt
fits_size (fin s zero e) h = tt
fits_size (fin s (suc m) e) h = h

zero_fits : T (fits binary32 zero_f)
unfolding fits
zero_fits = tt

or_fits : (x : Float) → T (fits binary32 x) → T (fits binary32 (or_zero x))
or_fits x h = cond-fits binary32 (finite x) x zero_f h zero_fits

jump_fits : (x y : Float) → T (fits binary32 (jump x y))
jump_fits x y = fits_size (sub binary32 x y) (sub-fits binary32 x y)

pub between_in : (start end : ℕ) (t : ℕ → Bool) → Each (λ i. (start < i) × (i < end)) (between start end t)
unfolding between
between_in start end t =
    each_map (λ i. (start + 1 ≤ i) × (i < start + 1 + (end - (start + 1))) × (t i ≡ true)) (λ i. (start < i) × (i < end)) (λ i h. (omega (arith, h.0), omega (arith, h.0, h.1)))
    (keep t (start + 1) (end - (start + 1))) (each_keep t (start + 1) (end - (start + 1)))

-- a frame of the region or its end
abbrev pub In : ℕ → ℕ → ℕ → Type 0
In start end i = (start ≤ i) × (i ≤ end)

module _ (P : Candidate → Type 0) (start end : ℕ) where
  each_pause : (db : List Float) (threshold : Float) → ((i : ℕ) → (start < i) × (i < end) → P (pause_edge db threshold i)) → Each P (pause_edges db threshold start end)
  unfolding pause_edges
  each_pause db threshold f =
      each_of_map P (pause_edge db threshold) (between start end (pause_here db threshold))
      (each_map (λ i. (start < i) × (i < end)) (λ i. P (pause_edge db threshold i)) f (between start end (pause_here db threshold)) (between_in start end (pause_here db threshold)))

  each_voicing : (pitch voicing : List Float) (skip : ℕ → Bool) → ((i : ℕ) → (start < i) × (i < end) → P (voicing_edge voicing i)) → Each P (voicing_edges pitch voicing skip start end)
  unfolding voicing_edges
  each_voicing pitch voicing skip f =
      each_of_map P (voicing_edge voicing) (between start end (voicing_here pitch skip))
      (each_map (λ i. (start < i) × (i < end)) (λ i. P (voicing_edge voicing i)) f (between start end (voicing_here pitch skip)) (between_in start end (voicing_here pitch skip)))

module _ (start end : ℕ) where
  beside_in : (db : List Float) (threshold : Float) (i : ℕ) → (start < i) × (i < end) → In start end (loud_beside db threshold i)
  beside_in db threshold i h = go (speech_at threshold db i)
    where
      go : (b : Bool) → In start end (cond b i (i - 1))
      go true = (omega (arith, h.0), omega (arith, h.1))
      go false = (omega (arith, h.0), omega (arith, h.1))

  pub pauses_in_lem : (db : List Float) (threshold : Float) → Each (In start end) (in_turn (pause_edges db threshold start end))
  pauses_in_lem db threshold = turn_each (In start end) (pause_edges db threshold start end) (each_pause (λ c. In start end c.frame) start end db threshold (beside_in db threshold))

  pub voicings_in : (pitch voicing : List Float) (skip : ℕ → Bool) → Each (In start end) (in_turn (voicing_edges pitch voicing skip start end))
  voicings_in pitch voicing skip = turn_each (In start end) (voicing_edges pitch voicing skip start end) (each_voicing (λ c. In start end c.frame) start end pitch voicing skip (λ i h. (omega (arith, h.0), omega (arith, h.1))))

  narrow : (i : ℕ) → i ≤ end → end ≤ 2048 → i < 4294967296
  narrow i h g = omega arith

  pauses_sound : (db : List Float) (threshold : Float) → end ≤ 2048 → Each Sound (pause_edges db threshold start end)
  pauses_sound db threshold g = each_pause Sound start end db threshold (λ i h. record { narrow = narrow _ (beside_in db threshold i h).1 g; held = jump_fits _ _ })

  voicings_sound : (pitch voicing : List Float) (skip : ℕ → Bool) → end ≤ 2048 → Each Sound (voicing_edges pitch voicing skip start end)
  voicings_sound pitch voicing skip g = each_voicing Sound start end pitch voicing skip (λ i h. record { narrow = narrow i (omega (arith, h.1)) g; held = or_fits _ (jump_fits _ _) })

pub minima_below : (s : List Float) → Each (λ i. i < length s) (local_extrema s 0 (length s) Min)
minima_below s =
    each_map (λ i. (0 ≤ i) × (i < min (length s) (length s))) (λ i. i < length s) (λ i h. omega (arith, h.1)) (local_extrema s 0 (length s) Min)
    (strict_each 0 (min (length s) (length s)) (local_extrema s 0 (length s) Min) (extrema_rise s 0 (length s) Min))

module _ (s : List Float) {mins : List ℕ} (d : mins ≡ local_extrema s 0 (length s) Min) where
  pub mins_below : (i : ℕ) → i < length mins → get_or mins i 0 < length s
  mins_below i h = each_at (λ m. m < length s) mins 0 (subst (Each (λ m. m < length s)) (sym d) (minima_below s)) i h

  -- the keys of those in long spans are all written
  pub minima_keys : (skip : ℕ → Bool) (kept : List ℕ) {test : ℕ → Bool} {ks keys : List ℕ} → test ≡ in_long_span kept → keys ≡ keyed s (λ i. test i && not (skip i)) mins → ks ≡ keys → ks ≡ map key_of (minima s skip kept)
  unfolding minima
  minima_keys skip kept {test} e g d' = d' ∙ g ∙ ap (λ (t : ℕ → Bool). keyed s (λ i. t i && not (skip i)) mins) e ∙ ap (keyed s (λ i. in_long_span kept i && not (skip i))) d

module _ (P : Candidate → Type 0) (s : List Float) (skip : ℕ → Bool) (kept : List ℕ) where
  pub each_minimum : ((i : ℕ) → i < length s → P (minimum s i)) → Each P (minima s skip kept)
  unfolding minima
  each_minimum f =
      let test : ℕ → Bool = λ i. in_long_span kept i && not (skip i) in
      let all = local_extrema s 0 (length s) Min in
      each_of_map P (minimum s) (filter test all) (each_kept (λ i. P (minimum s i)) test all (each_map (λ i. i < length s) (λ i. P (minimum s i)) f all (minima_below s)))

minima_sound : (s : List Float) (skip : ℕ → Bool) (kept : List ℕ) → length s ≤ 2048 → Each Sound (minima s skip kept)
unfolding prominence_at
minima_sound s skip kept g = each_minimum Sound s skip kept (λ i h. record { narrow = small i h g; held = sub-fits binary32 _ _ })
  where
    small : (i : ℕ) → i < length s → length s ≤ 2048 → i < 4294967296
    small i h g = omega arith

-- ---- from keys to frames in their turn
module _ {cs : List Candidate} (k : Keyed cs) {keys : List ℕ} (e : keys ≡ map key_of cs) where
  in_turn_lem : map frame_in (sorted keys) ≡ in_turn cs
  in_turn_lem = ap (λ (ks : List ℕ). map frame_in (sorted ks)) e ∙ keys_in_turn cs k.sound (sorted_is (map key_of cs))

  pub turn_fits : Each (λ f. f ≤ 2048) (map frame_in (sorted keys))
  turn_fits = subst (Each (λ f. f ≤ 2048)) (sym in_turn_lem) (turn_each (λ f. f ≤ 2048) cs k.within)

  pub turn_added : {a b : Kept} → AddedInTurn (map frame_in (sorted keys)) a b → AddedInTurn (in_turn cs) a b
  turn_added {a} {b} h = subst (λ (xs : List ℕ). AddedInTurn xs a b) in_turn_lem h

pub pauses_keyed : (db : List Float) (threshold : Float) (start end : ℕ) → end ≤ 2048 → Keyed (pause_edges db threshold start end)
pauses_keyed db threshold start end g = record {
  sound = pauses_sound start end db threshold g;
  within = each_pause (λ c. c.frame ≤ 2048) start end db threshold (λ i h. omega (arith, (beside_in start end db threshold i h).1));
}

pub voicings_keyed : (pitch voicing : List Float) (skip : ℕ → Bool) (start end : ℕ) → end ≤ 2048 → Keyed (voicing_edges pitch voicing skip start end)
voicings_keyed pitch voicing skip start end g = record {
  sound = voicings_sound start end pitch voicing skip g;
  within = each_voicing (λ c. c.frame ≤ 2048) start end pitch voicing skip (λ i h. omega (arith, h.1));
}

pub minima_keyed : (s : List Float) (skip : ℕ → Bool) (kept : List ℕ) → length s ≤ 2048 → Keyed (minima s skip kept)
minima_keyed s skip kept g = record {
  sound = minima_sound s skip kept g;
  within = each_minimum (λ c. c.frame ≤ 2048) s skip kept (λ i h. omega arith);
}
