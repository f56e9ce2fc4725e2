-- The marks of a region from what each stage left: nuclei, then extra candidates and boundaries around those at the front of the list. Assumes nothing.
use Prim.Native.Nat.{ℕ, zero, suc, ◌≤◌}
use native.Mathlib.Omega.{arith}
use mathlib.Core.Path.{◌≡◌, refl, sym, ap, subst, ◌∙◌}
use mathlib.Core.Bool.{true}
use mathlib.Core.List.{List}
use lib.IntN.{ℤ}
use lib.ListN.{length, take, length-map}
use lib.Ieee.{Float, le}
use Rattle.lists.specs.Results.{overlay, Listed}
use Rattle.lists.specs.Sorted.{StrictlyRises}
use Rattle.lists.proofs.Fill.{listed_take}
use Rattle.lists.proofs.Members.{strict_from, strict_to}
use Rattle.region.specs.Speech.{threshold_of, mark, marks_of, spanning, region_of}
use Rattle.region.specs.declared.Settings.{Settings}
use Rattle.region.specs.declared.Region.{Region}
use Rattle.std.specs.Prelude.{Option, None, Some}
use Rattle.nsdf.specs.Period.{period_hz}
use Rattle.nsdf.proofs.Range.{period_range}
use Rattle.repair.specs.Repair.{Pitches}
use Rattle.repair.proofs.Runs.{length_repaired}
use Rattle.recover.specs.Recovered.{recovered}
use Rattle.recover.proofs.Kept.{length_recovered, admitted_recovered}
use Rattle.nuclei.specs.Nuclei.{Nucleus, nuclei_of, frames_of, strengths_of}
use Rattle.nuclei.proofs.Promises.{take_rises}
use Rattle.extra.specs.Extra.{extras_of, edges_of}
use Rattle.boundaries.specs.Boundaries.{boundaries_of}
use Rattle.chain.specs.declared.Marks.{Marks}
use Rattle.chain.specs.Chain.{Take, Lists, Left, unmarked, reading_in, reading_with, joined_track, pitches_of, reading_of, written, nothing, refusal_of, leaves, chain_of, MarkCall, ChainCall}

pub framed : (l : List Nucleus) → length (frames_of l) ≡ length l
framed l = length-map l (λ (n : Nucleus). n.frame)

-- answers with the same counts are the same
marks_same : {start end n n' x x' e e' b b' : ℕ} → n ≡ n' → x ≡ x' → e ≡ e' → b ≡ b' →
    ◌≡◌ {A = Marks} (record { refusal = 0; found = true; start = start; end = end; nuclei = n; extras = x; edges = e; boundaries = b })
    (record { refusal = 0; found = true; start = start; end = end; nuclei = n'; extras = x'; edges = e'; boundaries = b' })
marks_same n x e b = cc

-- lists with the same entries are the same
lists_same : {f f' x x' e e' b b' : List ℕ} {s s' t t' : List Float} → f ≡ f' → s ≡ s' → x ≡ x' → t ≡ t' → e ≡ e' → b ≡ b' →
    ◌≡◌ {A = Lists} (record { frames = f; strengths = s; xframes = x; xstrengths = t; edges = e; bounds = b })
    (record { frames = f'; strengths = s'; xframes = x'; xstrengths = t'; edges = e'; bounds = b' })
lists_same f s x t e b = cc

-- the marks at the front of a longer list
pub marks_lent : (db : List Float) (p : Settings) (old : List ℕ) {new : List ℕ} → new ≡ overlay (marks_of db p) old → take (length db) new ≡ marks_of db p
marks_lent db p old e = listed_take (record { count = sym (length-map db (mark (threshold_of db p))); entries = e })

-- the joined track is one that the repair takes: what is recovered is from 60 to 600 Hz
pub joined_pitches : (pitch : List Float) (samples : List ℤ) (speech vowel : List ℕ) → Pitches 40 2000 pitch → Pitches 40 2000 (recovered pitch samples speech vowel)
unfolding le
joined_pitches pitch samples speech vowel = admitted_recovered 40 2000 tt tt tt tt (period_hz samples) (period_range samples) pitch speech vowel

-- no marks leave the lists as they were
pub nothing_written : (pitch : List Float) (l : Lists) → written (unmarked pitch) l ≡ l
unfolding overlay
nothing_written pitch l = refl

module _ (db pitch voiced sonority : List Float) (p : Settings) (start end : ℕ) where
  -- the nuclei that are lent on are those of the region, and rise strictly in the track
  pub lent_rises : {old new : List ℕ} {n : ℕ} → end ≤ length db → Listed (frames_of (nuclei_of db pitch start end p)) old new n → StrictlyRises 0 (length db) (take n new)
  lent_rises within l =
      subst (StrictlyRises 0 (length db)) (sym (listed_take l))
      (
      let fs = frames_of (nuclei_of db pitch start end p) in
      strict_to 0 end (length db) fs within (strict_from 0 start end fs (omega arith) (take_rises db pitch start end p within))
      )

  module _ {left lent : Lists} {n x e b : ℕ}
      (nuclei : Listed (frames_of (nuclei_of db pitch start end p)) lent.frames left.frames n)
      (strengths : Listed (strengths_of (nuclei_of db pitch start end p)) lent.strengths left.strengths n)
      (extras : Listed (frames_of (extras_of db pitch sonority start end (take n left.frames) p)) lent.xframes left.xframes x)
      (xstrengths : Listed (strengths_of (extras_of db pitch sonority start end (take n left.frames) p)) lent.xstrengths left.xstrengths x)
      (edges : Listed (edges_of db pitch sonority start end (take n left.frames) p) lent.edges left.edges e)
      (boundaries : Listed (boundaries_of db pitch voiced start end (take n left.frames) p) lent.bounds left.bounds b) where
    pub told : MarkCall (reading_in db pitch voiced sonority p (Some (spanning start end))) lent left (record { refusal = 0; found = true; start = start; end = end; nuclei = n; extras = x; edges = e; boundaries = b })
    told =
        let q = listed_take nuclei in
        let ns = nuclei_of db pitch start end p in
        let xs : Listed (frames_of (extras_of db pitch sonority start end (frames_of ns) p)) lent.xframes left.xframes x = rw q at extras in
        let ys : Listed (strengths_of (extras_of db pitch sonority start end (frames_of ns) p)) lent.xstrengths left.xstrengths x = rw q at xstrengths in
        let es : Listed (edges_of db pitch sonority start end (frames_of ns) p) lent.edges left.edges e = rw q at edges in
        let bs : Listed (boundaries_of db pitch voiced start end (frames_of ns) p) lent.bounds left.bounds b = rw q at boundaries in (
          marks_same (nuclei.count ∙ framed ns) (xs.count ∙ framed (extras_of db pitch sonority start end (frames_of ns) p)) es.count bs.count,
          lists_same nuclei.entries strengths.entries xs.entries ys.entries es.entries bs.entries,
        )

-- ---- the whole chain
-- a reading's pitches are those that it is over
pub reading_pitch : (db pitch voiced sonority : List Float) (p : Settings) (r : Option Region) → (reading_in db pitch voiced sonority p r).pitch ≡ pitch
reading_pitch db pitch voiced sonority p None = refl
reading_pitch db pitch voiced sonority p (Some r) = refl

pub length_pitches : (t : Take) → length (pitches_of t) ≡ length t.pitch
unfolding pitches_of
length_pitches t = length_repaired (joined_track t) ∙ length_recovered _ t.pitch (marks_of t.db t.settings) t.vowel

left_same : {r r' : Marks} {q q' : List Float} {m m' : Lists} → r ≡ r' → q ≡ q' → m ≡ m' →
    ◌≡◌ {A = Left} (record { answer = r; pitch = q; lists = m }) (record { answer = r'; pitch = q'; lists = m' })
left_same r q m = cc

module _ (t : Take) (l : Lists) where
  -- after a refusal all is as it was
  pub refused_left : {r : Marks} (n : ℕ) → n ≡ refusal_of t l → (n ≡ 0 → ⊥) → r ≡ nothing n → ChainCall t l l t.pitch r
  unfolding chain_of
  refused_left {r} n e some q = go (refusal_of t l) e
    where
      go : (k : ℕ) → n ≡ k → ◌≡◌ {A = Left} (record { answer = r; pitch = t.pitch; lists = l }) (leaves written t l k)
      go zero f = absurd (some f)
      go (suc k) f = left_same (q ∙ ap nothing f) refl refl

  -- else there is what the stages left, on the pitches so far
  pub read_left : {r : Marks} {pitch : List Float} {left : Lists} → refusal_of t l ≡ 0 → pitch ≡ pitches_of t →
      MarkCall (reading_with t.db pitch t.voiced t.sonority t.settings) l left r → ChainCall t l left pitch r
  unfolding chain_of reading_of
  read_left {r} {pitch} {left} e q h =
      let h' : MarkCall (reading_with t.db (pitches_of t) t.voiced t.sonority t.settings) l left r = rw q at h in
      left_same h'.0 (q ∙ sym (reading_pitch t.db (pitches_of t) t.voiced t.sonority t.settings (region_of t.db t.settings))) h'.1 ∙ ap (leaves written t l) (sym e)
