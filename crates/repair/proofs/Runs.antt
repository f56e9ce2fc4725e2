-- What a run hands to the repair of its frames (`gathered`), and the runs one after the other (`runs_turn`), whose repairs make the repaired track (`whole`).
-- Assumes nothing.
use Prim.Native.Nat.{ℕ, ◌+◌, ◌-◌, ◌≤◌, ◌<◌}
use native.Mathlib.Nat.{zero-add}
use native.Mathlib.Omega.{arith}
use mathlib.Core.Path.{◌≡◌, refl, sym, ap, ◌∙◌, subst}
use mathlib.Core.Bool.{true, false, true≢false}
use mathlib.Core.List.{List, [], ◌∷◌, ◌++◌, append_assoc, append-nil, map}
use mathlib.Core.Logic.{⊎_elim}
use lib.ListN.{length, get_or, take, drop, set, length-map}
use lib.Seq.{ext_get_or, get_or-take, get_or-drop}
use lib.Dec.{T}
use lib.Ieee.{Float, nan, ne, binary32, fits}
use Rattle.floats.specs.Plain.{zero_f}
use Rattle.floats.specs.Total.{value_of}
use Rattle.lists.specs.Results.{keep}
use Rattle.lists.specs.By.{Each}
use Rattle.lists.specs.Sorted.{StrictlyRises}
use Rattle.lists.proofs.Entries.{each_map, each_at}
use Rattle.lists.proofs.Fill.{keep_step, keep_over, keep_fits}
use Rattle.lists.proofs.Tabulated.{length_tabulate, tabulate_at}
use Rattle.lists.proofs.Members.{each_keep, keep_rises, strict_from}
use Rattle.powers.specs.Pitch.{Between, PitchOrNone}
use Rattle.runs.specs.declared.voiced.Span.{Span}
use Rattle.runs.specs.Runs.{voiced, voiced_frames, long_runs, Spaced}
use Rattle.runs.proofs.Spacing.{long_spaced}
use Rattle.lists.specs.Frames.{at}
use Rattle.runs.proofs.Pushing.{push_room, push_on}
use Rattle.repair.specs.Repair.{Pitches, voiced_in, beside, repaired_in, repaired_among, repaired}
use Rattle.repair.specs.Places.{around, PitchPlace, key_at, LongIn, RunWritten}
use Rattle.repair.proofs.Track.{Gathered, Writing, write_turn, write_end, entry_at, none_left, keys_length, frames_few, key_value, keys_placed, run_value}
use Rattle.repair.proofs.Sizes.{keep_part, long_run_frames}

-- ---- a run
module _ (lo hi : ℕ) (pitch : List Float) (a : Pitches lo hi pitch) where
  pub pitched_at : (i : ℕ) → i < length pitch → voiced pitch i ≡ true → Between lo hi (at pitch i)
  unfolding ne
  pitched_at i h v =
      ⊎_elim (λ e. absurd (true≢false (sym v ∙ ap (λ (p : Float). ne p zero_f) e))) (λ b. b)
      (each_at (PitchOrNone lo hi) pitch nan a i h)

module _ (pitch : List Float) (r : Span) (a : Pitches 40 2000 pitch) (l : LongIn pitch r) where
  frames_pitched : Each (λ i. Between 40 2000 (at pitch i)) (voiced_in pitch r)
  unfolding voiced_in
  frames_pitched =
      each_map (λ i. (r.first ≤ i) × (i < r.first + (r.last + 1 - r.first)) × (voiced pitch i ≡ true)) (λ i. Between 40 2000 (at pitch i))
      (λ i h. pitched_at 40 2000 pitch a i (omega (arith, h.1, l.order, l.within)) h.2)
      (voiced_in pitch r) (each_keep (voiced pitch) r.first (r.last + 1 - r.first))

  pub frames_rise : StrictlyRises 0 (length pitch) (voiced_in pitch r)
  unfolding voiced_in
  frames_rise = strict_from 0 r.first (length pitch) (voiced_in pitch r) (omega arith) (keep_rises (voiced pitch) (length pitch) r.first (r.last + 1 - r.first) (omega (arith, l.order, l.within)))

  pub gathered : (keys : List ℕ) → keys ≡ map (key_at pitch) (voiced_in pitch r) → Gathered pitch (voiced_in pitch r) keys
  gathered keys e = record { rises = frames_rise; several = omega (arith, l.frames); pitched = frames_pitched; places = e }

-- ---- the voiced frames of a run, one after the other
module _ (pitch : List Float) (r : Span) where
  -- those before frame i are written, and those from i on are from place p of the run on
  pub record Walking (old track : List Float) (p i : ℕ) : Type 0 where
    pub left : drop p (voiced_in pitch r) ≡ keep (voiced pitch) i (r.last + 1 - i)
    pub written : Writing (repaired_in pitch (voiced_in pitch r)) (voiced_in pitch r) old p track

  pub walking_start : (old : List Float) → Walking old old 0 r.first
  unfolding voiced_in
  walking_start old = record { left = refl; written = λ i. refl }

  module _ {old track : List Float} {p i : ℕ} (h : i ≤ r.last) (w : Walking old track p i) where
    -- frame i is voiced: it stands at place p
    module _ (v : voiced pitch i ≡ true) where
      next : drop p (voiced_in pitch r) ≡ i ∷ keep (voiced pitch) (i + 1) (r.last + 1 - (i + 1))
      next = w.left ∙ rw (keep_step (voiced pitch) i (r.last + 1) (omega arith), v)

      pub walking_here : (p < length (voiced_in pitch r)) × (get_or (voiced_in pitch r) p 0 ≡ i)
      walking_here = let e = entry_at _ _ p i next in (e.0, e.1)

      pub walking_on : (x : Float) → i < length track → x ≡ repaired_in pitch (voiced_in pitch r) i → Walking old (set track i x) (p + 1) (i + 1)
      walking_on x l e =
          let at-place = entry_at _ _ p i next in
          record { left = at-place.2; written = rw at-place.1 at (write_turn (repaired_in pitch (voiced_in pitch r)) (voiced_in pitch r) old p track x at-place.0 (rw at-place.1 l) (rw at-place.1 e) w.written) }

    pub walking_past : voiced pitch i ≡ false → Walking old track p (i + 1)
    walking_past v = record { left = w.left ∙ rw (keep_step (voiced pitch) i (r.last + 1) (omega arith), v); written = w.written }

  pub walking_end : {old track : List Float} {p i : ℕ} → r.last < i → Walking old track p i → RunWritten pitch r old track
  walking_end {old} {track} {p} {i} h w =
      write_end (repaired_in pitch (voiced_in pitch r)) (voiced_in pitch r) old p track (none_left p (voiced_in pitch r) (w.left ∙ keep_over (voiced pitch) i (r.last + 1) (omega arith))) w.written

-- frame i stands at place p, with its pitch and its neighbours
module _ (pitch : List Float) (r : Span) (a : Pitches 40 2000 pitch) (l : LongIn pitch r) (keys : List ℕ) (e : keys ≡ map (key_at pitch) (voiced_in pitch r)) (fit : (i : ℕ) → T (fits binary32 (at pitch i))) where
  together : Gathered pitch (voiced_in pitch r) keys
  together = gathered pitch r a l keys e

  pub run_placed : Each PitchPlace keys
  run_placed = keys_placed pitch (voiced_in pitch r) keys together fit

  module _ {old track : List Float} {p i : ℕ} (h : i ≤ r.last) (w : Walking pitch r old track p i) (v : voiced pitch i ≡ true) where
    here : (p < length (voiced_in pitch r)) × (get_or (voiced_in pitch r) p 0 ≡ i)
    here = walking_here pitch r h w v

    pub frame_placed : (p < length keys) × (2 ≤ length keys) × (length keys ≤ length pitch) × (at pitch i ≡ value_of (get_or keys p 0))
    frame_placed =
        let m = keys_length pitch (voiced_in pitch r) keys together in
        (omega (arith, m, here.0), omega (arith, m, together.several), omega (arith, m, frames_few pitch (voiced_in pitch r) keys together), rw here.1 at (key_value pitch (voiced_in pitch r) keys together fit p here.0))

    pub frame_value : beside (at pitch i) (map value_of (around keys p)) ≡ repaired_in pitch (voiced_in pitch r) i
    frame_value = rw here.1 at (run_value pitch (voiced_in pitch r) keys together fit p here.0)

-- ---- their places in the total order: those so far, and those of the frames from i on
module _ (pitch : List Float) (r : Span) where
  -- the k-th pitch of the run's part of the track
  pub run_at : (k : ℕ) → k < r.last + 1 - r.first → get_or (take (r.last + 1 - r.first) (drop r.first pitch)) k nan ≡ at pitch (r.first + k)
  run_at k h = get_or-take (r.last + 1 - r.first) (drop r.first pitch) k nan h ∙ get_or-drop r.first pitch k nan

  pub record Placing (keys : List ℕ) (i : ℕ) : Type 0 where
    pub whole : keys ++ map (key_at pitch) (keep (voiced pitch) i (r.last + 1 - i)) ≡ map (key_at pitch) (voiced_in pitch r)

  pub placing_start : Placing [] r.first
  unfolding voiced_in
  placing_start = record { whole = refl }

  module _ {keys : List ℕ} {i : ℕ} (h : i ≤ r.last) (g : Placing keys i) where
    module _ (v : voiced pitch i ≡ true) where
      now : keys ++ (key_at pitch i ∷ map (key_at pitch) (keep (voiced pitch) (i + 1) (r.last + 1 - (i + 1)))) ≡ map (key_at pitch) (voiced_in pitch r)
      now = rw (keep_step (voiced pitch) i (r.last + 1) (omega arith), v) at g.whole

      pub placing_room : length keys < r.last + 1
      unfolding voiced_in
      placing_room = push_room _ _ _ now (r.last + 1) (omega (arith, length-map (voiced_in pitch r) (key_at pitch), keep_fits (voiced pitch) r.first (r.last + 1 - r.first)))

      pub placing_on : Placing (keys ++ (key_at pitch i ∷ [])) (i + 1)
      placing_on = record { whole = push_on _ _ _ now }

    pub placing_past : voiced pitch i ≡ false → Placing keys (i + 1)
    placing_past v = record { whole = rw (keep_step (voiced pitch) i (r.last + 1) (omega arith), v) at g.whole }

  pub placing_end : {keys : List ℕ} {i : ℕ} → r.last < i → Placing keys i → keys ≡ map (key_at pitch) (voiced_in pitch r)
  placing_end {keys} {i} h g = sym (append-nil keys) ∙ rw (keep_over (voiced pitch) i (r.last + 1) (omega arith)) at g.whole

-- ---- of the runs rs those after the ones that are left are repaired
pub record Repairing (pitch : List Float) (rs left : List Span) (track : List Float) : Type 0 where
  pub done : List Span
  pub split : rs ≡ left ++ done
  pub repaired_so : (i : ℕ) → get_or track i nan ≡ repaired_among pitch done i

module _ (pitch : List Float) {rs : List Span} where
  pub runs_start : {left : List Span} → left ≡ rs → Repairing pitch rs left pitch
  unfolding repaired_among
  runs_start {left} e = record { done = []; split = sym e ∙ sym (append-nil left); repaired_so = λ i. refl }

  pub runs_turn : {left rest : List Span} (r : Span) {old new : List Float} → left ≡ rest ++ (r ∷ []) → Repairing pitch rs left old → RunWritten pitch r old new → Repairing pitch rs rest new
  unfolding repaired_among
  runs_turn {left} {rest} r {old} {new} e g w = record {
    done = r ∷ g.done;
    split = g.split ∙ ap (λ (l : List Span). l ++ g.done) e ∙ append_assoc rest (r ∷ []) g.done;
    repaired_so = λ i. w i ∙ rw (g.repaired_so i);
  }

  pub runs_end : {left : List Span} {track : List Float} → length left ≡ 0 → Repairing pitch rs left track → (i : ℕ) → get_or track i nan ≡ repaired_among pitch rs i
  runs_end {left = []} e g i = g.repaired_so i ∙ ap (λ (l : List Span). repaired_among pitch l i) (sym g.split)
  runs_end {left = r ∷ left} e g i = absurd (omega arith)

-- ---- the long runs of a track
each_spaced : (pitch : List Float) (lo : ℕ) (rs : List Span) → Spaced lo (length pitch) rs → Each (λ r. 5 ≤ length (voiced_in pitch r)) rs → Each (LongIn pitch) rs
each_spaced pitch lo [] s f = tt
each_spaced pitch lo (r ∷ rs) s f = (record { order = s.1; within = s.2; frames = f.0 }, each_spaced pitch (r.last + 4) rs s.3 f.1)

pub long_runs_long : (pitch : List Float) → Each (LongIn pitch) (long_runs pitch)
long_runs_long pitch = each_spaced pitch 0 (long_runs pitch) (long_spaced pitch) (long_run_frames pitch)

-- ---- the whole track
pub length_repaired : (pitch : List Float) → length (repaired pitch) ≡ length pitch
unfolding repaired
length_repaired pitch = length_tabulate (repaired_among pitch (long_runs pitch)) (length pitch)

pub repaired_at : (pitch : List Float) (i : ℕ) → i < length pitch → get_or (repaired pitch) i nan ≡ repaired_among pitch (long_runs pitch) i
unfolding repaired
repaired_at pitch i h = tabulate_at (repaired_among pitch (long_runs pitch)) (length pitch) i nan h

pub whole : (pitch track : List Float) → length track ≡ length pitch → ((i : ℕ) → get_or track i nan ≡ repaired_among pitch (long_runs pitch) i) → track ≡ repaired pitch
whole pitch track e w = ext_get_or nan track (repaired pitch) (e ∙ sym (length_repaired pitch)) (λ i h. w i ∙ sym (repaired_at pitch i (omega arith)))

-- with fewer than 5 voiced frames there is no long run
pub few_stay : (pitch : List Float) → length (voiced_frames pitch) < 5 → pitch ≡ repaired pitch
unfolding voiced_frames voiced_in repaired_among
few_stay pitch h = whole pitch pitch refl (λ i. ap (λ (rs : List Span). repaired_among pitch rs i) (sym (none_long (long_runs pitch) (long_runs_long pitch))))
  where
    none_long : (rs : List Span) → Each (LongIn pitch) rs → rs ≡ []
    none_long [] e = refl
    none_long (r ∷ rs) e =
        let l = e.0 in
        let k = keep_part (voiced pitch) 0 r.first (r.last + 1 - r.first) (length pitch) (omega (arith, l.order, l.within)) in
        absurd (omega (arith, h, l.frames, subst (λ (f : ℕ). length (keep (voiced pitch) f (r.last + 1 - r.first)) ≤ length (keep (voiced pitch) 0 (length pitch))) (zero-add r.first) k))
