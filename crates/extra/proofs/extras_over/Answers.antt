-- `extra::extras_over` meets its contract: the parts are composed. Assumes nothing.
use native.Mathlib.Omega.{arith}
use mathlib.Core.Path.{◌≡◌, sym, ◌∙◌}
use lib.ListN.{length}
use Rattle.std.proofs.Common.{rules}
use Rattle.lists.specs.Sorted.{StrictlyRises}
use Rattle.lists.proofs.Members.{strict_below, strict_to}
use Rattle.runs.proofs.Spacing.{long_few}
use Rattle.extra.specs.Unpitched.{unpitched_peaks}
use Rattle.extra.specs.Extra.{extras_from, edges_from, extra_frames, extra_edges}
use Rattle.extra.proofs.Voiceless.{peaks_rise}
use Rattle.extra.proofs.Anchoring.{marked_is}
use Rattle.extra.proofs.Whole.{anchors_rise, seconds_fit}
use Rattle.extra.proofs.extras_over.Goals as goal
use Rattle.extra.proofs.extras_over.Goals.{After-merged}

pub merged-requires : goal.merged-requires
merged-requires c = (omega arith, (c.requires.same_length.0, rw (c.deref.ensures.0 ∙ c.unpitched_peaks.ensures) (peaks_rise _ _ _ _), c.requires.same_length.0))

kept_rises : (c : After-merged) → StrictlyRises 0 (length c.args.r.level.now) c.merged.new.kept.items
kept_rises c = rw c.merged.ensures (anchors_rise _ _ _ _)

-- a track has 2,048 frames at most
kept_short : (c : After-merged) → StrictlyRises 0 2048 c.merged.new.kept.items
kept_short c = strict_to 0 (length c.args.r.level.now) 2048 c.merged.new.kept.items c.requires.same_length.0 (kept_rises c)

pub second_syllables-requires : goal.second_syllables-requires
second_syllables-requires c = (
  omega arith,
  (
    omega (arith, c.requires.same_length),
    c.requires.same_length.1 ∙ sym c.requires.same_length.2,
    rw c.deref-3.ensures.0 (kept_short (goal.at.second_syllables-requires c).After-merged),
    omega (arith, long_few c.args.pitch.now, c.requires.same_length),
  ),
)

pub all_frames-requires : goal.all_frames-requires
all_frames-requires c = (rw c.deref-4.ensures.0 (kept_short (goal.at.all_frames-requires c).After-merged), rw (c.deref-5.ensures.0 ∙ c.second_syllables.ensures) (omega (arith, seconds_fit, c.requires.same_length)))

pub all_edges-requires : goal.all_edges-requires
all_edges-requires c = (c.requires.same_length.0, rw c.deref-7.ensures.0 (kept_rises (goal.at.all_edges-requires c).After-merged), rw (c.deref-8.ensures.0 ∙ c.second_syllables.ensures) (omega (arith, seconds_fit, c.requires.same_length)))

pub returns : goal.returns
unfolding extra_frames extra_edges extras_from edges_from
returns c =
    let s = c.args.r.level.now in
    let peaks = c.unpitched_peaks.ensures in
    let kept = rw (c.deref.ensures.0 ∙ peaks) at c.merged.ensures in
    let seconds = rw (c.deref-3.ensures.0 ∙ kept) at c.second_syllables.ensures in
    let m = c.marks-is_peak in
    let many : length m.result ≡ 2048 = search (rules, m.type_inv) in
    let ps = unpitched_peaks s c.args.pitch.now c.args.son.now c.args.r.bounds in
    let mark = marked_is ps m.result (rw (c.deref-2.ensures.0 ∙ peaks) at m.ensures) many (strict_below 0 2048 ps (strict_to 0 (length s) 2048 ps c.requires.same_length.0 (peaks_rise _ _ _ _))) in
    let found = rw (mark, c.deref-4.ensures.0 ∙ kept, c.deref-5.ensures.0 ∙ seconds) at c.all_frames.ensures in
    let between = rw (mark, c.deref-7.ensures.0 ∙ kept, c.deref-8.ensures.0 ∙ seconds) at c.all_edges.ensures in
    let w = rw (c.deref-6.ensures.0 ∙ found) at c.write_extras-extras.ensures in
    (w.0, w.1, rw (c.deref-9.ensures.0 ∙ between) at c.in_order.ensures)
