-- A split outside the region, and a nucleus that loses its mark, by evaluation. Assumes nothing.
use mathlib.Core.Path.{◌≡◌, refl}
use mathlib.Core.Bool.{true, false}
use mathlib.Core.List.{[], ◌∷◌, ◌++◌}
use lib.ListN.{replicate}
use lib.IntN.{pos, negsuc}
use lib.Ieee.{Float, fin, lt, le, eq, ne, add, sub, mul, div, round, of_bits, of_int, to_bits, to_unsigned}
use Rattle.floats.specs.Plain.{zero_f, half}
use Rattle.floats.specs.Narrow.{narrow}
use Rattle.lists.specs.Frames.{tabulate, some_frame, first_frame, last_frame}
use Rattle.lists.specs.Results.{keep, filter}
use Rattle.lists.specs.Marks.{member, in_order}
use Rattle.smooth.specs.Level.{means, levels}
use Rattle.smooth.specs.Extrema.{is_extremum, local_extrema, first_best, extremum_middle, furthest, shallow}
use Rattle.region.specs.Defaults.{defaults}
use Rattle.region.specs.Percentile.{tenth_of}
use Rattle.lists.specs.Grouped.{attach, grouped}
use Rattle.runs.specs.Runs.{voiced_frames, voiced_runs, long_runs}
use Rattle.nuclei.specs.Merging.{push_by, merge_by, merged}
use Rattle.nuclei.specs.Peaks.{pitch_near, speech_by_level}
use Rattle.nuclei.specs.Nuclei.{louder, frames_of}
use Rattle.extra.specs.Unpitched.{vowel_like, unpitched, unpitched_peaks}
use Rattle.extra.specs.Split.{change, may_split, split_of}
use Rattle.extra.specs.Merging.{one_syllable, survivor, anchors}
use Rattle.extra.specs.Seconds.{held_by, second_in, seconds}
use Rattle.extra.specs.Extra.{edges_between, extras_from, edges_from, extra_frames, extra_edges, extras_of, edges_of}

-- 0.75 and 0.25
abbrev high : Float
high = fin false 3 (negsuc 1)

abbrev low : Float
low = fin false 1 (negsuc 1)

-- 200 Hz
abbrev voice : Float
voice = fin false 25 (pos 3)

-- -20 and -60 dB
abbrev loud : Float
loud = fin true 5 (pos 2)

abbrev quiet : Float
quiet = fin true 15 (pos 2)

-- ---- a run that reaches past the region 0 .. 5, loud at the frames before it: the extra and its edge lie outside
pub outside : (frames_of (extras_of (replicate 5 loud ++ replicate 7 quiet) (replicate 12 voice) (replicate 6 high ++ replicate 6 low) 0 5 (1 ∷ []) defaults) ≡ 8 ∷ []) × (edges_of (replicate 5 loud ++ replicate 7 quiet) (replicate 12 voice) (replicate 6 high ++ replicate 6 low) 0 5 (1 ∷ []) defaults ≡ 6 ∷ [])
unfolding tabulate extras_of edges_of extra_frames extra_edges extras_from edges_from edges_between seconds second_in held_by anchors survivor one_syllable unpitched_peaks unpitched vowel_like split_of may_split change louder push_by merge_by merged speech_by_level pitch_near is_extremum local_extrema some_frame first_frame last_frame first_best extremum_middle furthest shallow means levels tenth_of defaults voiced_frames voiced_runs long_runs grouped attach keep filter member in_order narrow lt le eq ne add sub mul div round of_bits of_int to_bits to_unsigned
outside = (refl, refl)

-- ---- one frame with no pitch that is a nucleus and an unpitched peak, with no margin: the extra stands on the nucleus
pub lost_mark : frames_of (extras_of (loud ∷ []) (zero_f ∷ []) (half ∷ []) 0 1 (0 ∷ []) (record { margin = zero_f; dip = zero_f; gap = 6 })) ≡ 0 ∷ []
unfolding tabulate extras_of edges_of extra_frames extra_edges extras_from edges_from edges_between seconds second_in held_by anchors survivor one_syllable unpitched_peaks unpitched vowel_like split_of may_split change louder push_by merge_by merged speech_by_level pitch_near is_extremum local_extrema some_frame first_frame last_frame first_best extremum_middle furthest shallow means levels tenth_of defaults voiced_frames voiced_runs long_runs grouped attach keep filter member in_order narrow lt le eq ne add sub mul div round of_bits of_int to_bits to_unsigned
lost_mark = refl
