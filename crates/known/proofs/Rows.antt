-- Every row of the table is right, by computing the definitions. Assumes nothing.
use mathlib.Core.Path.{refl}
use mathlib.Core.List.{flat_map}
use lib.Ieee.{add, sub, mul, div, round, of_int, to_unsigned, to_bits, of_bits, lt, le, eq, ne}
use Rattle.floats.specs.Narrow.{narrow}
use Rattle.lists.specs.Frames.{tabulate, some_frame, all_frames, first_frame, last_frame}
use Rattle.lists.specs.Results.{overlay, filter, keep}
use Rattle.lists.specs.Marks.{member, in_order}
use Rattle.powers.specs.Pitch.{breaks_in, step_in, octave_in}
use Rattle.smooth.specs.Level.{means, levels}
use Rattle.smooth.specs.Extrema.{is_extremum, local_extrema, first_best, extremum_middle, furthest, shallow}
use Rattle.region.specs.Defaults.{defaults, classic}
use Rattle.region.specs.Percentile.{tenth_of}
use Rattle.region.specs.Speech.{region_in}
use Rattle.lists.specs.Grouped.{attach, grouped}
use Rattle.runs.specs.Runs.{voiced_frames, voiced_runs, long_runs}
use Rattle.runs.specs.Near.{away_by, run_of, separate}
use Rattle.runs.specs.Syllables.{breaks_from, syllables_of, syllable_runs, gaps, dropouts_of, dropouts}
use Rattle.nsdf.specs.Nsdf.{cross, power, nsdf, window}
use Rattle.repair.specs.Repair.{voiced_in, neighbours, beside, repaired_among, repaired}
use Rattle.recover.specs.Estimates.{estimates}
use Rattle.recover.specs.Recovered.{recovered_from, recovered_by}
use Rattle.nuclei.specs.Merging.{push_by, merge_by, merged}
use Rattle.nuclei.specs.Peaks.{pitch_near, speech_by_level, voiced_peak, onto_run, peaks_onto, voiced_peaks}
use Rattle.nuclei.specs.Tops.{runs_held, unheld_from, unheld, has_top, stands_alone, top_of, on_flank, tops_of}
use Rattle.nuclei.specs.Nuclei.{candidates, one_nucleus, louder, nucleus_frames, nuclei_over, nuclei_of}
use Rattle.extra.specs.Unpitched.{unpitched, unpitched_peaks}
use Rattle.extra.specs.Split.{change, may_split, split_of}
use Rattle.extra.specs.Merging.{one_syllable, survivor, anchors}
use Rattle.extra.specs.Seconds.{held_by, second_in, seconds}
use Rattle.extra.specs.Extra.{edges_between, extras_from, edges_from, extra_frames, extra_edges, extras_of, edges_of}
use Rattle.boundaries.specs.Keeping.{clear, try_add, add_all}
use Rattle.boundaries.specs.Joints.{joint, joints, joints_inside}
use Rattle.boundaries.specs.Edges.{between, pause_edges, creaks, in_creak, voicing_edges}
use Rattle.boundaries.specs.Minima.{in_long_span, minima}
use Rattle.boundaries.specs.Boundaries.{chosen, boundaries_in}
use Rattle.admit.specs.Values.{db_admitted, pitch_admitted, all_of, rising}
use Rattle.admit.specs.First.{first_of, passes, first_failed}
use Rattle.admit.specs.Refusals.{tested, refusal, region_refusal, boundaries_refusal, boundaries_with_refusal, chain_refusal}
use Rattle.entries.specs.Stages.{if_admitted, spanned}
use Rattle.chain.specs.Chain.{pitches_of, reading_of, chain_of}
use Rattle.take.specs.Fields.{half_at, word_at}
use Rattle.take.specs.File.{agrees, refusal_by, records, take_in, read_take}
use Rattle.take.specs.Text.{glyph, hex_digits, decimal_in}
use Rattle.take.specs.Listing.{mark_lines, pitch_lines, region_line, listing}
use Rattle.report.specs.Shown.{text_of, printed}
use Rattle.lists.specs.By.{Each}
use Rattle.known.specs.Table.{Right, known}

pub known_right : Each Right known
unfolding known chain_of overlay region_refusal if_admitted spanned eq printed text_of flat_map reading_of pitches_of filter keep means levels is_extremum
    local_extrema some_frame all_frames first_frame last_frame first_best extremum_middle furthest shallow defaults classic tenth_of region_in attach grouped
    voiced_frames voiced_runs long_runs away_by run_of separate breaks_from syllables_of syllable_runs gaps dropouts_of dropouts breaks_in member in_order
    voiced_in neighbours beside repaired_among repaired tabulate estimates recovered_from recovered_by octave_in push_by merge_by merged pitch_near
    speech_by_level voiced_peak onto_run peaks_onto voiced_peaks runs_held unheld_from unheld has_top stands_alone top_of on_flank tops_of candidates one_nucleus
    louder nucleus_frames nuclei_over nuclei_of unpitched unpitched_peaks change may_split split_of one_syllable survivor anchors held_by second_in seconds
    edges_between extras_from edges_from extra_frames extra_edges extras_of edges_of clear try_add add_all joint joints joints_inside between pause_edges creaks
    in_creak voicing_edges in_long_span minima chosen boundaries_in db_admitted pitch_admitted all_of first_of passes first_failed tested refusal chain_refusal
    half_at word_at agrees refusal_by records take_in read_take glyph hex_digits decimal_in mark_lines pitch_lines region_line listing step_in cross power nsdf
    window rising boundaries_refusal boundaries_with_refusal narrow add sub mul div round of_int to_unsigned to_bits of_bits lt le ne
known_right = (refl, (refl, (refl, (refl, (refl, (refl, (refl, (refl, (refl, (refl, (refl, ((refl, refl), (((refl, record { count = refl; entries = refl }), (refl, record { count = refl; entries = refl })), (((refl, record { count = refl; entries = refl }), (refl, record { count = refl; entries = refl })), (refl, (refl, (refl, (refl, (refl, (refl, (refl, (refl, (refl, (refl, (refl, (refl, (refl, (refl, (refl, (refl, (refl, (refl, (refl, (refl, (refl, (refl, (refl, tt)))))))))))))))))))))))))))))))))))))
