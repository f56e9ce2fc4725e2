-- The nuclei and the unpitched peaks of a take, merged. Definitions only.
use Rattle.std.specs.Prelude.{ℕ, ◌-◌, Bool, false, ◌&&◌, ◌||◌, cond, List, ◌++◌, get_or, ltb, length, Float}
use Rattle.lists.specs.Marks.{member, in_order}
use Rattle.smooth.specs.Extrema.{shallow}
use Rattle.region.specs.declared.Settings.{Settings}
use Rattle.nuclei.specs.Merging.{merged}
use Rattle.nuclei.specs.Nuclei.{louder}

-- the mark of a frame; past the marks there is none
abbrev pub mark_at : List Bool → ℕ → Bool
mark_at m x = get_or m x false

-- ---- anchors, of which `peak` tells the unpitched peaks; the others are nuclei
-- two anchors are one syllable: closer than the gap, or with no valley between them; two nuclei never are
unfoldable pub one_syllable : List Float → Settings → (ℕ → Bool) → ℕ → ℕ → Bool
one_syllable s p peak prev x = (peak prev || peak x) && (ltb (x - prev) p.gap || shallow s prev x p.dip)

-- which of the two stays: one that is a nucleus; of two peaks without pitch the louder one, and where they are alike the first
unfoldable pub survivor : List Float → (ℕ → Bool) → ℕ → ℕ → ℕ
survivor s peak prev x = cond (peak prev) (cond (peak x) (louder s prev x) x) prev

-- the anchors that are kept: nuclei and unpitched peaks in order, merged. A frame that is in both lists is an unpitched peak: the nucleus there loses its mark
unfoldable pub anchors : List Float → Settings → List ℕ → List ℕ → List ℕ
anchors s p nuclei peaks = merged (one_syllable s p (member peaks)) (survivor s (member peaks)) (in_order (nuclei ++ peaks) (length s))
