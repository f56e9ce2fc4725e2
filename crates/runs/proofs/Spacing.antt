-- Voiced, long and syllable runs stand in order in their track, more than 3 frames apart, so that a list of a quarter of the track's length, rounded up, has room for
-- them; and a dropout is more than 3 frames wide. Assumes nothing.
use Prim.Native.Nat.{ℕ, ◌+◌, ◌-◌, ◌*◌, ◌≤◌, ◌<◌}
use native.Mathlib.Omega.{arith}
use mathlib.Core.Path.{◌≡◌, refl}
use mathlib.Core.Bool.{Bool, true, false, not, cond}
use mathlib.Core.List.{List, [], ◌∷◌, map}
use lib.ListN.{length, length-map}
use lib.Ieee.{Float}
use borrow.Author.Tests.{leb-false}
use Rattle.lists.specs.Results.{cons_if, filter}
use Rattle.lists.specs.By.{Each}
use Rattle.lists.specs.Sorted.{StrictlyRises}
use Rattle.lists.proofs.Entries.{each_kept}
use Rattle.lists.proofs.Members.{keep_rises}
use Rattle.runs.specs.declared.voiced.Run.{Run}
use Rattle.lists.specs.Grouped.{attach, grouped}
use Rattle.runs.specs.declared.voiced.Span.{Span}
use Rattle.runs.specs.Runs.{span, voiced, voiced_frames, sole, close, joined, voiced_runs, long, long_runs, InTrack, Spaced}
use Rattle.runs.specs.Syllables.{breaks_from, unbroken, across, syllables_of, syllable_runs, gaps, dropouts_of, dropouts}

-- ---- runs that are spaced
pub spaced_from : (lo lo' n : ℕ) (rs : List Span) → lo ≤ lo' → Spaced lo' n rs → Spaced lo n rs
spaced_from lo lo' n [] h s = tt
spaced_from lo lo' n (r ∷ rs) h s = (omega (arith, s.0), s.1, s.2, s.3)

pub spaced_within : (lo n : ℕ) (rs : List Span) → Spaced lo n rs → InTrack n rs
spaced_within lo n [] s = tt
spaced_within lo n (r ∷ rs) s = ((s.1, s.2), spaced_within (r.last + 4) n rs s.3)

pub spaced_few : (lo n : ℕ) (rs : List Span) → lo ≤ n + 3 → Spaced lo n rs → 4 * length rs + lo ≤ n + 3
spaced_few lo n [] h s = omega arith
spaced_few lo n (r ∷ rs) h s = omega (arith, spaced_few (r.last + 4) n rs (omega (arith, s.2)) s.3, s.0, s.1)

-- runs left out leave the others spaced
spaced_filter : (p : Run → Bool) (lo n : ℕ) (rs : List Run) → Spaced lo n (map span rs) → Spaced lo n (map span (filter p rs))
unfolding filter
spaced_filter p lo n [] s = tt
spaced_filter p lo n (r ∷ rs) s = go (p r) (spaced_filter p (r.last + 4) n rs s.3)
  where
    go : (b : Bool) → Spaced (r.last + 4) n (map span (filter p rs)) → Spaced lo n (map span (cons_if b r (filter p rs)))
    go true t = (s.0, s.1, s.2, t)
    go false t = spaced_from lo (r.last + 4) n (map span (filter p rs)) (omega (arith, s.0, s.1)) t

-- the gaps between them are wide
gaps_wide : (lo n : ℕ) (rs : List Span) → Spaced lo n rs → Each (λ g. (g.first + 3 < g.last) × (g.last < n)) (gaps rs)
unfolding gaps
gaps_wide lo n [] s = tt
gaps_wide lo n (r ∷ []) s = tt
gaps_wide lo n (r ∷ q ∷ rs) s = ((omega (arith, s.3.0), omega (arith, s.3.1, s.3.2)), gaps_wide (r.last + 4) n (q ∷ rs) s.3)

-- ---- voiced runs
frames_spaced : (lo n : ℕ) (fs : List ℕ) → StrictlyRises lo n fs → Spaced lo n (map span (grouped close joined (map sole fs)))
unfolding grouped attach
frames_spaced lo n [] s = tt
frames_spaced lo n (f ∷ fs) s = go (grouped close joined (map sole fs)) (frames_spaced (f + 1) n fs s.2)
  where
    go : (rs : List Run) → Spaced (f + 1) n (map span rs) → Spaced lo n (map span (attach close joined (sole f) rs))
    go [] t = (s.0, omega arith, s.1, tt)
    go (r ∷ rs) t = pick (close (sole f) r) refl
      where
        pick : (b : Bool) → close (sole f) r ≡ b → Spaced lo n (map span (cond b (joined (sole f) r ∷ rs) (sole f ∷ r ∷ rs)))
        pick true e = (s.0, omega (arith, t.0, t.1), t.2, t.3)
        pick false e = (s.0, omega arith, s.1, (omega (arith, leb-false (r.first - f) 3 e), t.1, t.2, t.3))

module _ (pitch : List Float) where
  pub voiced_spaced : Spaced 0 (length pitch) (map span (voiced_runs pitch))
  unfolding voiced_runs voiced_frames
  voiced_spaced = frames_spaced 0 (length pitch) (voiced_frames pitch) (keep_rises (voiced pitch) (length pitch) 0 (length pitch) (omega arith))

  pub long_spaced : Spaced 0 (length pitch) (long_runs pitch)
  unfolding long_runs
  long_spaced = spaced_filter long 0 (length pitch) (voiced_runs pitch) voiced_spaced

  pub long_tracked : InTrack (length pitch) (long_runs pitch)
  long_tracked = spaced_within 0 (length pitch) (long_runs pitch) long_spaced

  -- ---- syllable runs
  pub grouped_spaced : (lo n : ℕ) (rs : List Span) → Spaced lo n rs → Spaced lo n (syllables_of pitch rs)
  unfolding syllables_of grouped attach
  grouped_spaced lo n [] s = tt
  grouped_spaced lo n (r ∷ rs) s = go (syllables_of pitch rs) (grouped_spaced (r.last + 4) n rs s.3)
    where
      go : (gs : List Span) → Spaced (r.last + 4) n gs → Spaced lo n (attach (unbroken pitch) across r gs)
      go [] t = (s.0, s.1, s.2, tt)
      go (g ∷ gs) t = pick (unbroken pitch r g)
        where
          pick : (b : Bool) → Spaced lo n (cond b (across r g ∷ gs) (r ∷ g ∷ gs))
          pick true = (s.0, omega (arith, s.1, t.0, t.1), t.2, t.3)
          pick false = (s.0, s.1, s.2, t)

  pub syllable_spaced : Spaced 0 (length pitch) (syllable_runs pitch)
  unfolding syllable_runs
  syllable_spaced = grouped_spaced 0 (length pitch) (long_runs pitch) long_spaced

  -- ---- a list of a quarter of the track's length, rounded up, has room
  pub voiced_few : 4 * length (voiced_runs pitch) ≤ length pitch + 3
  voiced_few = omega (arith, rw length-map at (spaced_few 0 (length pitch) (map span (voiced_runs pitch)) (omega arith) voiced_spaced))

  pub long_few : 4 * length (long_runs pitch) ≤ length pitch + 3
  long_few = omega (arith, spaced_few 0 (length pitch) (long_runs pitch) (omega arith) long_spaced)

  pub syllable_few : 4 * length (syllable_runs pitch) ≤ length pitch + 3
  syllable_few = omega (arith, spaced_few 0 (length pitch) (syllable_runs pitch) (omega arith) syllable_spaced)

  -- ---- dropouts
  pub dropout_wide : Each (λ g. (g.first + 3 < g.last) × (g.last < length pitch)) (dropouts pitch)
  unfolding dropouts dropouts_of
  dropout_wide = each_kept (λ g. (g.first + 3 < g.last) × (g.last < length pitch)) (λ (g : Span). not (breaks_from pitch g.first g.last)) (gaps (long_runs pitch)) (gaps_wide 0 (length pitch) (long_runs pitch) long_spaced)
