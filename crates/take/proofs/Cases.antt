-- A listing with the kinds of line that K1 lacks, a refusal, and files beside each limit of the head, by computing the definitions. Assumes nothing.
use mathlib.Core.Path.{◌≡◌, refl}
use mathlib.Core.List.{[], ◌∷◌, flat_map}
use Rattle.std.specs.Prelude.{None}
use lib.Ieee.{binary32, of_bits, to_bits}
use Rattle.lists.specs.Results.{keep}
use Rattle.take.specs.Fields.{half_at, word_at}
use Rattle.take.specs.File.{agrees, refusal_by, file_refusal}
use Rattle.take.specs.Text.{glyph, hex_digits, decimal_in}
use Rattle.take.specs.Listing.{Marks, mark_lines, pitch_lines, region_line, listing, refused_listing}

-- a pitch of 400 Hz that is left as 200, at frame 1 of two, no region, and an extra with its edge
abbrev pub other : Marks
other = record { given = of_bits binary32 0 ∷ of_bits binary32 1137180672 ∷ []; left = of_bits binary32 0 ∷ of_bits binary32 1128792064 ∷ []; region = None; frames = []; strengths = []; extra_frames = 10 ∷ []; extra_strengths = of_bits binary32 1109393408 ∷ []; edges = 2047 ∷ []; boundaries = [] }

pub other_listing : listing other ≡ 112 ∷ 105 ∷ 116 ∷ 99 ∷ 104 ∷ 32 ∷ 49 ∷ 32 ∷ 52 ∷ 51 ∷ 52 ∷ 56 ∷ 48 ∷ 48 ∷ 48 ∷ 48 ∷ 10 ∷ 114 ∷ 101 ∷ 103 ∷ 105 ∷ 111 ∷ 110 ∷ 32 ∷ 110 ∷ 111 ∷ 110 ∷ 101 ∷ 10 ∷ 101 ∷ 120 ∷ 116 ∷ 114 ∷ 97 ∷ 32 ∷ 49 ∷ 48 ∷ 32 ∷ 52 ∷ 50 ∷ 50 ∷ 48 ∷ 48 ∷ 48 ∷ 48 ∷ 48 ∷ 10 ∷ 101 ∷ 120 ∷ 116 ∷ 114 ∷ 97 ∷ 45 ∷ 101 ∷ 100 ∷ 103 ∷ 101 ∷ 32 ∷ 50 ∷ 48 ∷ 52 ∷ 55 ∷ 10 ∷ []
unfolding listing pitch_lines region_line mark_lines flat_map keep glyph hex_digits decimal_in of_bits to_bits
other_listing = refl

pub refused_listing_lem : refused_listing 11 ≡ 114 ∷ 101 ∷ 102 ∷ 117 ∷ 115 ∷ 101 ∷ 100 ∷ 32 ∷ 49 ∷ 49 ∷ 10 ∷ []
unfolding glyph decimal_in
refused_listing_lem = refl

-- ---- heads: no frames and no byte more; one byte more; one byte less; version 2; a length that is not that of the frames; 2,049 frames; fewer than 7 bytes
pub empty_take : file_refusal (0 ∷ 0 ∷ 0 ∷ 15 ∷ 1 ∷ 0 ∷ 0 ∷ 0 ∷ 0 ∷ 0 ∷ 0 ∷ 0 ∷ 0 ∷ 0 ∷ 0 ∷ 0 ∷ 0 ∷ 0 ∷ 0 ∷ []) ≡ 0
unfolding refusal_by agrees half_at word_at
empty_take = refl

pub byte_more : file_refusal (0 ∷ 0 ∷ 0 ∷ 15 ∷ 1 ∷ 0 ∷ 0 ∷ 0 ∷ 0 ∷ 0 ∷ 0 ∷ 0 ∷ 0 ∷ 0 ∷ 0 ∷ 0 ∷ 0 ∷ 0 ∷ 0 ∷ 0 ∷ []) ≡ 11
unfolding refusal_by agrees half_at word_at
byte_more = refl

pub byte_less : file_refusal (0 ∷ 0 ∷ 0 ∷ 15 ∷ 1 ∷ 0 ∷ 0 ∷ 0 ∷ 0 ∷ 0 ∷ 0 ∷ 0 ∷ 0 ∷ 0 ∷ 0 ∷ 0 ∷ 0 ∷ 0 ∷ []) ≡ 11
unfolding refusal_by agrees half_at word_at
byte_less = refl

pub other_version : file_refusal (0 ∷ 0 ∷ 0 ∷ 15 ∷ 2 ∷ 0 ∷ 0 ∷ 0 ∷ 0 ∷ 0 ∷ 0 ∷ 0 ∷ 0 ∷ 0 ∷ 0 ∷ 0 ∷ 0 ∷ 0 ∷ 0 ∷ []) ≡ 11
unfolding refusal_by agrees half_at word_at
other_version = refl

pub other_length : file_refusal (0 ∷ 0 ∷ 0 ∷ 15 ∷ 1 ∷ 0 ∷ 1 ∷ 0 ∷ 0 ∷ 0 ∷ 0 ∷ 0 ∷ 0 ∷ 0 ∷ 0 ∷ 0 ∷ 0 ∷ 0 ∷ 0 ∷ []) ≡ 11
unfolding refusal_by agrees half_at word_at
other_length = refl

pub frame_more : refusal_by (0 ∷ 0 ∷ 136 ∷ 32 ∷ 1 ∷ 8 ∷ 1 ∷ []) 34852 ≡ 1
unfolding refusal_by agrees half_at word_at
frame_more = refl

pub no_head : file_refusal (0 ∷ 0 ∷ 0 ∷ 15 ∷ 1 ∷ 0 ∷ []) ≡ 11
unfolding refusal_by agrees half_at word_at
no_head = refl
