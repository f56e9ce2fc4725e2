-- Each voiced run is a union of voiced frames (`voiced_unions`). Then the turns of the walks over a pitch track: the next voiced frame, the run that begins with it
-- (`Growing`), and the runs one after the other (`Running`, `RunningLong`). Assumes nothing.
use Prim.Native.Nat.{ℕ, ◌+◌, ◌-◌, ◌/◌, ◌≤◌, ◌<◌}
use native.Mathlib.Omega.{arith}
use native.Mathlib.Nat.{sub-zero, add_assoc}
use mathlib.Core.Path.{◌≡◌, refl, sym, ap, ◌∙◌}
use mathlib.Core.Bool.{Bool, true, false, cond}
use mathlib.Core.List.{List, [], ◌∷◌, ◌++◌, append-nil, map}
use lib.ListN.{length, get_or}
use lib.Ieee.{Float, nan, ne}
use borrow.Author.Tests.{le-leb, lt-leb}
use Rattle.floats.specs.Plain.{zero_f}
use Rattle.lists.specs.Results.{cons_if, filter}
use Rattle.lists.specs.Sorted.{StrictlyRises}
use Rattle.lists.proofs.Fill.{map_cons_if, keep_step, keep_over}
use Rattle.lists.proofs.Members.{keep_rises}
use Rattle.lists.proofs.Firsts.{keep_some, keep_none}
use Rattle.lists.specs.Frames.{first_in}
use Rattle.std.specs.Prelude.{None, Some}
use Rattle.runs.specs.declared.voiced.Run.{Run}
use Rattle.lists.specs.Grouped.{attach, grouped, Unions}
use Rattle.runs.specs.declared.voiced.Span.{Span}
use Rattle.runs.specs.Runs.{span, voiced, voiced_frames, sole, close, joined, voiced_runs, long, long_runs}
use Rattle.runs.specs.Ahead.{frames_from, runs_from}
use Rattle.lists.proofs.Grouping.{Joins, attach_join, attach_cut, grouped_unions}
use Rattle.runs.proofs.Spacing.{voiced_few, long_few}
use Rattle.runs.proofs.Pushing.{push_room, push_on}

pub runs_join : Joins close joined
runs_join = record {
  assoc = λ x y z. ap (λ (n : ℕ). record { first = x.first; last = z.last; size = n }) (add_assoc x.size y.size z.size);
  before = λ x y z. refl;
  after = λ x y z. refl;
}

pub voiced_unions : (pitch : List Float) → Unions close joined (map sole (voiced_frames pitch)) (voiced_runs pitch)
unfolding voiced_runs
voiced_unions pitch = grouped_unions close joined runs_join (map sole (voiced_frames pitch))

module _ (pitch : List Float) where
  -- ---- the next voiced frame
  pub none_here : (i : ℕ) → i < length pitch → voiced pitch i ≡ false → frames_from pitch i ≡ frames_from pitch (i + 1)
  none_here i h e = rw (keep_step (voiced pitch) i (length pitch) h, e)

  one_here : (i : ℕ) → i < length pitch → voiced pitch i ≡ true → frames_from pitch i ≡ i ∷ frames_from pitch (i + 1)
  one_here i h e = rw (keep_step (voiced pitch) i (length pitch) h, e)

  runs_same : (i k : ℕ) → frames_from pitch i ≡ frames_from pitch k → runs_from pitch i ≡ runs_from pitch k
  unfolding runs_from
  runs_same i k e = ap (λ (fs : List ℕ). grouped close joined (map sole fs)) e

  runs_over : (i : ℕ) → length pitch ≤ i → runs_from pitch i ≡ []
  unfolding runs_from grouped
  runs_over i h = rw (keep_over (voiced pitch) i (length pitch) h)

  runs_all : runs_from pitch 0 ≡ voiced_runs pitch
  unfolding runs_from voiced_runs voiced_frames
  runs_all = rw sub-zero

  -- ---- a run grows
  pub record Growing (f : ℕ) (run : Run) (i : ℕ) : Type 0 where
    pub within : i ≤ length pitch
    pub past : run.last < i
    pub begun : f ≤ run.last
    pub few : run.size ≤ i
    pub same : attach close joined run (runs_from pitch i) ≡ runs_from pitch f
    pub silent : frames_from pitch (run.last + 1) ≡ frames_from pitch i

  pub growing_start : (f : ℕ) → f < length pitch → voiced pitch f ≡ true → Growing f (sole f) (f + 1)
  unfolding runs_from grouped
  growing_start f h v = record {
    within = omega arith;
    past = omega arith;
    begun = omega arith;
    few = omega arith;
    same = rw (one_here f h v);
    silent = refl;
  }

  module _ {f : ℕ} {run : Run} {i : ℕ} (g : Growing f run i) where
    pub growing_on : i < length pitch → i ≤ run.last + 3 → (run' : Run) → run' ≡ cond (ne (get_or pitch i nan) zero_f) (joined run (sole i)) run → Growing f run' (i + 1)
    unfolding runs_from
    growing_on here near run' p = go (voiced pitch i) refl
      where
        go : (b : Bool) → voiced pitch i ≡ b → Growing f run' (i + 1)
        go true e =
            let r : run' ≡ joined run (sole i) = rw e at p in
            rw r (record {
              within = omega arith;
              past = omega arith;
              begun = omega (arith, g.begun, g.past);
              few = omega (arith, g.few);
              same = sym (attach_join close joined runs_join run (sole i) (map sole (frames_from pitch (i + 1))) (le-leb (i - run.last) 3 (omega (arith, g.past)))) ∙ ap (λ (fs : List ℕ). attach close joined run (grouped close joined (map sole fs))) (sym (one_here i here e)) ∙ g.same;
              silent = refl;
            })
        go false e =
            let r : run' ≡ run = rw e at p in
            rw r (record {
              within = omega arith;
              past = omega (arith, g.past);
              begun = g.begun;
              few = omega (arith, g.few);
              same = ap (λ (rs : List Run). attach close joined run rs) (sym (runs_same i (i + 1) (none_here i here e))) ∙ g.same;
              silent = g.silent ∙ none_here i here e;
            })

    cut : (lo n : ℕ) (fs : List ℕ) → run.last + 3 < lo → StrictlyRises lo n fs → attach close joined run (grouped close joined (map sole fs)) ≡ run ∷ grouped close joined (map sole fs)
    unfolding grouped attach
    cut lo n [] h s = refl
    cut lo n (k ∷ fs) h s = attach_cut close joined runs_join run (sole k) (map sole fs) (lt-leb (k - run.last) 3 (omega (arith, s.0)))

    parted : attach close joined run (runs_from pitch i) ≡ run ∷ runs_from pitch i → (runs_from pitch f ≡ run ∷ runs_from pitch (run.last + 1)) × (f ≤ run.last) × (run.last < length pitch)
    parted e = (sym g.same ∙ e ∙ ap (λ (rs : List Run). run ∷ rs) (sym (runs_same (run.last + 1) i g.silent)), g.begun, omega (arith, g.past, g.within))

    -- nothing more joins it: a voiced frame from here on is too far away
    pub growing_far : run.last + 3 < i → (runs_from pitch f ≡ run ∷ runs_from pitch (run.last + 1)) × (f ≤ run.last) × (run.last < length pitch)
    unfolding runs_from
    growing_far h = parted (cut i (length pitch) (frames_from pitch i) h (keep_rises (voiced pitch) (length pitch) i (length pitch - i) (omega (arith, g.within))))

    -- or the track ends
    pub growing_over : length pitch ≤ i → (runs_from pitch f ≡ run ∷ runs_from pitch (run.last + 1)) × (f ≤ run.last) × (run.last < length pitch)
    unfolding attach
    growing_over h = parted (rw (runs_over i h))

  -- ---- what is left of the runs
  -- nothing, where no frame from i on is voiced
  pub ahead_none : (i : ℕ) → first_in (voiced pitch) i (length pitch - i) ≡ None → runs_from pitch i ≡ []
  unfolding runs_from grouped
  ahead_none i e = rw (keep_none (voiced pitch) i (length pitch) e)

  -- or what is left from the first that is
  pub ahead_some : (i : ℕ) {f : ℕ} → first_in (voiced pitch) i (length pitch - i) ≡ Some f → runs_from pitch i ≡ runs_from pitch f
  ahead_some i {f} e = runs_same i f (keep_some (voiced pitch) i (length pitch) e)

  -- ---- the runs one after the other: those so far, and what is left
  pub record Running (runs left : List Run) : Type 0 where
    pub whole : runs ++ left ≡ voiced_runs pitch

  pub record RunningLong (runs : List Span) (left : List Run) : Type 0 where
    pub whole : runs ++ map span (filter long left) ≡ long_runs pitch

  pub running_start : Running [] (runs_from pitch 0)
  running_start = record { whole = runs_all }

  pub running_long_start : RunningLong [] (runs_from pitch 0)
  unfolding long_runs
  running_long_start = record { whole = rw runs_all }

  module _ {run : Run} {left rest : List Run} (e : left ≡ run ∷ rest) where
    module _ {runs : List Run} (g : Running runs left) where
      now : runs ++ (run ∷ rest) ≡ voiced_runs pitch
      now = rw e at g.whole

      pub running_room : length runs < (length pitch + 3) / 4
      running_room = push_room _ _ _ now ((length pitch + 3) / 4) (omega (arith, voiced_few pitch))

      pub running_on : Running (runs ++ (run ∷ [])) rest
      running_on = record { whole = push_on _ _ _ now }

    module _ {runs : List Span} (g : RunningLong runs left) where
      now_long : runs ++ cons_if (long run) (span run) (map span (filter long rest)) ≡ long_runs pitch
      unfolding filter
      now_long = simp (e, map_cons_if) at g.whole

      next_long : long run ≡ true → runs ++ (span run ∷ map span (filter long rest)) ≡ long_runs pitch
      next_long l = rw l at now_long

      pub running_long_room : long run ≡ true → length runs < (length pitch + 3) / 4
      running_long_room l = push_room _ _ _ (next_long l) ((length pitch + 3) / 4) (omega (arith, long_few pitch))

      pub running_long_on : long run ≡ true → RunningLong (runs ++ (span run ∷ [])) rest
      running_long_on l = record { whole = push_on _ _ _ (next_long l) }

      pub running_short : long run ≡ false → RunningLong runs rest
      running_short l = record { whole = rw l at now_long }

  pub running_end : {runs left : List Run} → left ≡ [] → Running runs left → runs ≡ voiced_runs pitch
  running_end {runs} e g = sym (append-nil runs) ∙ rw e at g.whole

  pub running_long_end : {runs : List Span} {left : List Run} → left ≡ [] → RunningLong runs left → runs ≡ long_runs pitch
  unfolding filter
  running_long_end {runs} e g = sym (append-nil runs) ∙ rw e at g.whole
