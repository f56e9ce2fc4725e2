-- The records of a take file, read one by one to a lent list, and the fields of a record as fields of the file. Assumes nothing.
use Prim.Native.Nat.{ℕ, zero, suc, ◌+◌, ◌-◌, ◌*◌, ◌≤◌, ◌<◌}
use native.Mathlib.Omega.{arith}
use native.Mathlib.Nat.{le_of_eq, sub-zero}
use mathlib.Core.Path.{◌≡◌, refl, sym, ap, ◌∙◌}
use mathlib.Core.List.{List, [], ◌∷◌, map}
use lib.ListN.{length, get_or, take, drop, set, length-map}
use lib.Seq.{get_or-take, get_or-drop, drop-drop}
use lib.Ieee.{Float}
use Rattle.lists.proofs.Fill.{Filling, fill_start, fill_push, fill_end, listed_all}
use Rattle.take.specs.Fields.{word_at, float_at}
use Rattle.region.specs.declared.Settings.{Settings}
use Rattle.take.specs.File.{frame_count, records, track_at, marks_in, settings_in, FileTake, take_in}

pub records_length : (n : ℕ) (s : List ℕ) → length (records n s) ≡ n
unfolding records
records_length zero s = refl
records_length (suc n) s = ap suc (records_length n (drop 17 s))

records_step : (n i : ℕ) (s : List ℕ) → i < n → records (n - i) s ≡ take 17 s ∷ records (n - (i + 1)) (drop 17 s)
unfolding records
records_step n i s h =
    let e : n - i ≡ suc (n - (i + 1)) = omega arith in
    rw e

records_over : (n i : ℕ) (s : List ℕ) → n ≤ i → records (n - i) s ≡ []
unfolding records
records_over n i s h =
    let e : n - i ≡ 0 = omega arith in
    rw e

-- a field of a record is one of the file
byte_in : (s : List ℕ) (p at : ℕ) → at < 17 → get_or (take 17 (drop p s)) at 0 ≡ get_or s (p + at) 0
byte_in s p at h = get_or-take 17 (drop p s) at 0 h ∙ get_or-drop p s at 0

pub float_in : (s : List ℕ) (p at : ℕ) → at + 4 ≤ 17 → float_at (take 17 (drop p s)) at ≡ float_at s (p + at)
unfolding word_at
float_in s p at h =
    let e1 : p + (at + 1) ≡ p + at + 1 = omega arith in
    let e2 : p + (at + 2) ≡ p + at + 2 = omega arith in
    let e3 : p + (at + 3) ≡ p + at + 3 = omega arith in
    rw (byte_in s p at (omega arith), byte_in s p (at + 1) (omega arith), byte_in s p (at + 2) (omega arith), byte_in s p (at + 3) (omega arith), e1, e2, e3)

pub mark_in : (s : List ℕ) (p : ℕ) → get_or (take 17 (drop p s)) 16 0 ≡ get_or s (p + 16) 0
mark_in s p = byte_in s p 16 (omega arith)

-- out holds f of the first i records, and past them it is as it was lent
module _ {A : Type 0} (f : List ℕ → A) (file : List ℕ) (out₀ : List A) where
  abbrev pub Taking : List A → ℕ → Type 0
  Taking out i = Filling (map f (records (length out₀) (drop 19 file))) (map f (records (length out₀ - i) (drop (19 + 17 * i) file))) out₀ out i

  pub taking_start : Taking out₀ 0
  taking_start = rw (sub-zero (length out₀)) (fill_start _ out₀ (le_of_eq (length-map (records (length out₀) (drop 19 file)) f ∙ records_length (length out₀) (drop 19 file))))

  pub taking_next : {out : List A} (i : ℕ) → i < length out₀ → Taking out i → Taking (set out i (f (take 17 (drop (19 + 17 * i) file)))) (i + 1)
  taking_next {out} i h t =
      let e : drop 17 (drop (19 + 17 * i) file) ≡ drop (19 + 17 * (i + 1)) file = drop-drop 17 (19 + 17 * i) file ∙ further in
      fill_push (rw (records_step (length out₀) i (drop (19 + 17 * i) file) h, e) at t)
    where
      further : drop (19 + 17 * i + 17) file ≡ drop (19 + 17 * (i + 1)) file
      further = let e : 19 + 17 * i + 17 ≡ 19 + 17 * (i + 1) = omega arith in rw e

  pub taking_end : {out : List A} (i : ℕ) → length out₀ ≤ i → Taking out i → out ≡ map f (records (length out₀) (drop 19 file))
  taking_end {out} i h t =
      listed_all (fill_end (rw (records_over (length out₀) i (drop (19 + 17 * i) file) h) at t)) (le_of_eq (sym (length-map (records (length out₀) (drop 19 file)) f ∙ records_length (length out₀) (drop 19 file))))

-- the parts that are read are the take
pub whole_take : (file : List ℕ) {p : Settings} {db pitch voiced sonority : List Float} {vowel : List ℕ} (a b c d e : ℕ) → p ≡ settings_in file → db ≡ track_at 0 (records a (drop 19 file)) → pitch ≡ track_at 4 (records b (drop 19 file)) → voiced ≡ track_at 8 (records c (drop 19 file)) → sonority ≡ track_at 12 (records d (drop 19 file)) → vowel ≡ marks_in (records e (drop 19 file)) → a ≡ frame_count file → b ≡ frame_count file → c ≡ frame_count file → d ≡ frame_count file → e ≡ frame_count file → ◌≡◌ {A = FileTake} (record { settings = p; db = db; pitch = pitch; voiced = voiced; sonority = sonority; vowel = vowel }) (take_in file)
unfolding take_in
whole_take file a b c d e hp h1 h2 h3 h4 h5 ha hb hc hd he = rw (hp, h1, h2, h3, h4, h5, ha, hb, hc, hd, he)
