-- The text of what the chain leaves is that of the take; the entries that are listed, as far as their list goes, and that there is room for them. Assumes nothing.
use Prim.Native.Nat.{ℕ, zero, suc, ◌+◌, ◌≤◌, min}
use native.Mathlib.Omega.{arith}
use native.Mathlib.Nat.{le_refl}
use mathlib.Core.Path.{◌≡◌, refl, sym, ap, ◌∙◌}
use mathlib.Core.List.{List}
use lib.ListN.{length, take, drop, length-take, length-map}
use lib.Ieee.{Float}
use borrow.Author.Tests.{eq-eqb, ne_eqb}
use Rattle.lists.specs.Results.{overlay}
use Rattle.lists.proofs.Fill.{overlay_take}
use Rattle.lists.proofs.Parts.{take_min}
use Rattle.region.specs.Speech.{region_of}
use Rattle.region.specs.declared.Region.{Region}
use Rattle.std.specs.Prelude.{Option, None, Some, Result, Ok, Err}
use Rattle.nuclei.specs.Nuclei.{Nucleus, frames_of, strengths_of}
use Rattle.chain.specs.Chain.{Take, Lists, Left, pitches_of, reading_in, reading_of, marks_in, marks_for, written, left_by, leaves, refusal_of, chain_of}
use Rattle.chain.specs.declared.Marked.{Marked}
use Rattle.admit.specs.declared.numbers.Refusal.{Refusal}
use Rattle.admit.specs.Numbers.{number_at}
use Rattle.admit.proofs.Numbered.{not_zero}
use Rattle.take.specs.File.{frame_count, file_refusal, records, track_at, FileTake, take_in, read_take}
use Rattle.take.specs.Listing.{told_of, listing, refused_listing, largest_listing, Marks as Told}
use Rattle.take.proofs.Sizes.{listing_fits}
use Rattle.report.specs.Shown.{told, refusal_in, text_by, text_of, unsampled, printed, shown, Fitting}

-- ---- the text of a call of the chain is that of the take
frames_front : (ns : List Nucleus) (old : List ℕ) → take (length ns) (overlay (frames_of ns) old) ≡ frames_of ns
frames_front ns old = overlay_take (frames_of ns) old (sym (length-map ns (λ (n : Nucleus). n.frame)))

strengths_front : (ns : List Nucleus) (old : List Float) → take (length ns) (overlay (strengths_of ns) old) ≡ strengths_of ns
strengths_front ns old = overlay_take (strengths_of ns) old (sym (length-map ns (λ (n : Nucleus). n.strength)))

module _ (t : Take) (l : Lists) where
  shown_in : (r : Option Region) → let m = reading_in t.db (pitches_of t) t.voiced t.sonority t.settings r in shown t.pitch (left_by written m l) ≡ listing (told t.pitch m)
  unfolding shown
  shown_in None = refl
  shown_in (Some r) =
      let m = reading_in t.db (pitches_of t) t.voiced t.sonority t.settings (Some r) in
      rw (
        frames_front m.nuclei l.frames,
        strengths_front m.nuclei l.strengths,
        frames_front m.extras l.xframes,
        strengths_front m.extras l.xstrengths,
        overlay_take m.edges l.edges refl,
        overlay_take m.boundaries l.bounds refl,
      )

  shown_by : (number : ℕ) → shown t.pitch (leaves written t l number) ≡ text_by t number
  unfolding reading_of shown
  shown_by zero = shown_in (region_of t.db t.settings)
  shown_by (suc k) = rw (ne_eqb (suc k) 0 (λ e. absurd (omega (arith, e))))

  -- lists with the entries that the take needs
  abbrev pub Whole : Type 0
  Whole = let n = length t.pitch in (length l.frames ≡ n) × (length l.strengths ≡ n) × (length l.xframes ≡ n) × (length l.xstrengths ≡ n) × (length l.edges ≡ n) × (length l.bounds ≡ n + 1)

  refusal_same : Whole → refusal_of t l ≡ refusal_in t
  refusal_same h = rw (h.0, h.1, h.2, h.3, h.4, h.5)

  pub shown_text : Whole → shown t.pitch (chain_of t l) ≡ text_of t
  unfolding chain_of text_of
  shown_text h = shown_by (refusal_of t l) ∙ ap (text_by t) (refusal_same h)

-- ---- lists and tracks that are lent by parts
-- the part of a blank list that a take of n frames is lent
pub part_length : {A : Type 0} (l : List A) (k n m : ℕ) → length l ≡ m → k ≡ n → n ≤ m → length (take k l) ≡ n
part_length l k n m e h i = length-take k l ∙ omega arith

-- blank lists, of which the take is lent what it needs
module _ (t : Take) (few : length t.pitch ≤ 2048) (f : List ℕ) (s : List Float) (x : List ℕ) (y : List Float) (e b : List ℕ) (hf : length f ≡ 2048) (hs : length s ≡ 2048) (hx : length x ≡ 2048) (hy : length y ≡ 2048) (he : length e ≡ 2048) (hb : length b ≡ 2049) where
  abbrev pub parts : Lists
  parts = let n = length t.pitch in record { frames = take n f; strengths = take n s; xframes = take n x; xstrengths = take n y; edges = take n e; bounds = take (n + 1) b }

  whole : Whole t parts
  whole =
      let n = length t.pitch in
      (part_length f n n 2048 hf refl few, part_length s n n 2048 hs refl few, part_length x n n 2048 hx refl few, part_length y n n 2048 hy refl few, part_length e n n 2048 he refl few, part_length b (n + 1) (n + 1) 2049 hb refl (omega arith))

  pub parts_text : {given : List Float} → given ≡ t.pitch → shown given (chain_of t parts) ≡ text_of t
  parts_text g = ap (λ (z : List Float). shown z (chain_of t parts)) g ∙ shown_text t parts whole

-- the first entries, at most all
pub take_least : {A : Type 0} (l : List A) (k n : ℕ) {r : ℕ} → r ≡ min k n → length l ≡ n → take r l ≡ take k l
take_least l k n e h = ap (λ (i : ℕ). take i l) (e ∙ ap (min k) (sym h)) ∙ take_min k l

-- ---- the listing of a call
module _ (given pitch : List Float) (l : Lists) where
  -- what it is made of, by the region and by counts
  abbrev pub front : Option Region → ℕ → ℕ → ℕ → ℕ → Told
  front r a b c d = told_of given pitch r (take a l.frames) (take a l.strengths) (take b l.xframes) (take b l.xstrengths) (take c l.edges) (take d l.bounds)

  -- what is left where so much is found, or a call is refused
  abbrev leaving : Result Marked Refusal → Left
  leaving answer = record { answer = marks_for answer; pitch = pitch; lists = l }

  found_shown : (r : Option Region) (m : Marked) → listing (front r m.nuclei m.extras m.edges m.boundaries) ≡ shown given (record { answer = marks_in r m; pitch = pitch; lists = l })
  unfolding shown
  found_shown None m = refl
  found_shown (Some r) m = refl

  pub refused_shown : (refusal : Refusal) → refused_listing (number_at refusal) ≡ shown given (leaving (Err refusal))
  unfolding shown
  refused_shown refusal = rw (ne_eqb (number_at refusal) 0 (not_zero refusal))

  module _ (room : Fitting (length pitch) l) where
    pub front_fits : (r : Option Region) (a b c d : ℕ) → length (listing (front r a b c d)) ≤ largest_listing
    front_fits r a b c d =
        listing_fits (front r a b c d) (length pitch) room.few
        (record {
          pitches = le_refl (length pitch);
          nuclei = omega (arith, length-take a l.frames, room.frames);
          extras = omega (arith, length-take b l.xframes, room.xframes);
          edges = omega (arith, length-take c l.edges, room.edges);
          boundaries = omega (arith, length-take d l.bounds, room.bounds);
        })

    pub front_shown : (m : Marked) {a b c d : ℕ} → a ≡ min m.nuclei (length l.frames) → b ≡ min m.extras (length l.xframes) → c ≡ min m.edges (length l.edges) → d ≡ min m.boundaries (length l.bounds) → listing (front m.region a b c d) ≡ shown given (leaving (Ok m))
    front_shown m {a} {b} {c} {d} ha hb hc hd =
        rw (
          take_least l.frames m.nuclei (length l.frames) ha refl,
          take_least l.strengths m.nuclei (length l.frames) ha room.strengths,
          take_least l.xframes m.extras (length l.xframes) hb refl,
          take_least l.xstrengths m.extras (length l.xframes) hb room.xstrengths,
          take_least l.edges m.edges (length l.edges) hc refl,
          take_least l.bounds m.boundaries (length l.bounds) hd refl,
        ) (found_shown m.region m)

-- ---- a file
module _ (file : List ℕ) where
  -- the pitches that are read twice are the same
  pub pitches_same : {t : FileTake} {given : List Float} {n : ℕ} → n ≡ frame_count file → given ≡ track_at 4 (records n (drop 19 file)) → t ≡ take_in file → given ≡ t.pitch
  unfolding take_in
  pitches_same {t} {given} {n} h g e = g ∙ ap (λ (k : ℕ). track_at 4 (records k (drop 19 file))) h ∙ sym (ap (λ (z : FileTake). z.pitch) e)

  pub taken_printed : file_refusal file ≡ 0 → text_of (unsampled (take_in file)) ≡ printed file
  unfolding printed read_take
  taken_printed h = rw (eq-eqb (file_refusal file) 0 h)

  pub refused_printed : (file_refusal file ≡ 0 → ⊥) → refused_listing (file_refusal file) ≡ printed file
  unfolding printed read_take
  refused_printed h = rw (ne_eqb (file_refusal file) 0 h)
