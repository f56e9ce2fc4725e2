-- The known takes and pitches of the specification, K1 to K8, and some more beside a limit, as rows of one table. Definitions only.
use Rattle.std.specs.Prelude.{ℕ, zero, suc, ◌+◌, ◌≡◌, Bool, true, false, ◌&&◌, ℤ, pos, length, replicate, eqb, Float, Option, None, Some}
use mathlib.Core.List.{List, [], ◌∷◌, ◌++◌, map, flat_map}
use Rattle.std.specs.Float.{binary32, binary64}
use Rattle.std.specs.Float.Ieee.{round, neg, of_int, to_bits}
use Rattle.region.specs.Defaults.{defaults, classic}
use Rattle.region.specs.declared.Settings.{Settings}
use Rattle.nsdf.specs.Nsdf.{nsdf, window}
use Rattle.floats.specs.Ratio.{ratio}
use Rattle.lists.specs.Results.{overlay}
use Rattle.repair.specs.Repair.{repaired}
use Rattle.recover.specs.Recovered.{recovered_from}
use Rattle.nuclei.specs.Nuclei.{frames_of}
use Rattle.extra.specs.Extra.{extras_of, edges_of}
use Rattle.admit.specs.Values.{number}
use Rattle.entries.specs.Stages.{RegionCall, BoundariesCall, BoundariesWithCall}
use Rattle.entries.specs.declared.stages.Answer.{Answer}
use Rattle.entries.specs.declared.stages.Spanned.{Spanned}
use Rattle.chain.specs.Chain.{Take, Lists, Left, chain_of}
use Rattle.take.specs.File.{settings_in}
use Rattle.report.specs.Shown.{printed}

-- a row: a take file and the settings in it; a take file and the whole output; a take, the lent lists, and all that the chain answers and
-- leaves; a pitch track as given and as repaired; a pitch track as given, an estimate for each frame, and the track with what is recovered; the
-- same with the track repaired after that, which is how the chain leaves it; samples, a centre, lags and their periodicity; dB, pitches and sonority with a nucleus, and the edges and extra candidates there; dB, pitches
-- and nuclei, and the boundaries of the whole take by the entry without settings and by the one with settings under the classic set; a dB
-- track and the answer about its region. Pitches and estimates are in whole Hz, 0 for none
pub data Row : Type 0 where
  carries : List ℕ → Settings → Row
  prints : List ℕ → List ℕ → Row
  marks : Take → Lists → Left → Row
  repairs : List ℕ → List ℕ → Row
  recovers : List ℕ → List ℕ → List ℕ → Row
  mends : List ℕ → List ℕ → List ℕ → Row
  repeats : List ℤ → ℕ → List ℕ → List Float → Row
  splits : List Float → List Float → List Float → ℕ → List ℕ → List ℕ → Row
  parts : List Float → List Float → List ℕ → List ℕ → List ℕ → Row
  spans : List Float → Spanned → Row

-- a pitch track
abbrev track : List ℕ → List Float
track = map number

-- two tracks have the same bits
abbrev same_bits : List Float → List Float → Bool
same_bits [] [] = true
same_bits [] (y ∷ ys) = false
same_bits (x ∷ xs) [] = false
same_bits (x ∷ xs) (y ∷ ys) = eqb (to_bits binary32 x) (to_bits binary32 y) && same_bits xs ys

-- two sets of settings have the same bits
abbrev same_settings : Settings → Settings → Bool
same_settings p q = same_bits (p.margin ∷ p.dip ∷ []) (q.margin ∷ q.dip ∷ []) && eqb p.gap q.gap

-- a `voiced_p` of 0 at every frame; a lent list with just the room for boundaries, and 99 at every place; what is answered where so many are found
abbrev unvoiced : List Float → List Float
unvoiced db = replicate (length db) (number 0)

abbrev lent_for : List Float → List ℕ
lent_for db = replicate (length db + 1) 99

abbrev answer_of : List ℕ → Answer
answer_of found = record { refusal = 0; count = length found }

-- an estimate
abbrev estimate : ℕ → Option Float
estimate zero = None
estimate (suc n) = Some (of_int binary64 (pos (suc n)))

-- the definitions that the contracts cite give what the row says; of the recovery, the one that takes the estimates
abbrev pub Right : Row → Type 0
Right (carries file p) = same_settings (settings_in file) p ≡ true
Right (prints file text) = printed file ≡ text
Right (marks take lent left) = chain_of take lent ≡ left
Right (repairs given after) = same_bits (repaired (track given)) (track after) ≡ true
Right (recovers given found after) = recovered_from (track given) (map estimate found) ≡ track after
Right (mends given found after) = same_bits (repaired (recovered_from (track given) (map estimate found))) (track after) ≡ true
Right (repeats samples centre lags values) = map (nsdf (window samples centre)) lags ≡ values
Right (splits db pitch sonority nucleus edges extras) =
    (edges_of db pitch sonority 0 (length db) (nucleus ∷ []) defaults ≡ edges) × (frames_of (extras_of db pitch sonority 0 (length db) (nucleus ∷ []) defaults) ≡ extras)
Right (parts db pitch nuclei plain old) =
    BoundariesCall db pitch (unvoiced db) 0 (length db) nuclei (lent_for db) (overlay plain (lent_for db)) (answer_of plain)
    × BoundariesWithCall db pitch (unvoiced db) 0 (length db) nuclei classic (lent_for db) (overlay old (lent_for db)) (answer_of old)
Right (spans db answer) = RegionCall db defaults answer

-- ---- K1, byte by byte
-- the bits of f32: 0, 0.75, 1, 2, 10, 200, -20 and -60
abbrev nil : List ℕ
nil = 0 ∷ 0 ∷ 0 ∷ 0 ∷ []

abbrev three_quarters : List ℕ
three_quarters = 63 ∷ 64 ∷ 0 ∷ 0 ∷ []

abbrev one : List ℕ
one = 63 ∷ 128 ∷ 0 ∷ 0 ∷ []

abbrev two : List ℕ
two = 64 ∷ 0 ∷ 0 ∷ 0 ∷ []

abbrev ten : List ℕ
ten = 65 ∷ 32 ∷ 0 ∷ 0 ∷ []

abbrev two_hundred : List ℕ
two_hundred = 67 ∷ 72 ∷ 0 ∷ 0 ∷ []

abbrev minus_twenty : List ℕ
minus_twenty = 193 ∷ 160 ∷ 0 ∷ 0 ∷ []

abbrev minus_sixty : List ℕ
minus_sixty = 194 ∷ 112 ∷ 0 ∷ 0 ∷ []

-- a record by its dB, pitch and `voiced_p`: sonority 0.75, mark 0
abbrev frame : List ℕ → List ℕ → List ℕ → List ℕ
frame db pitch voiced = db ++ pitch ++ voiced ++ three_quarters ++ (0 ∷ [])

-- so many records alike
abbrev times : ℕ → List ℕ → List ℕ
times n r = flat_map (λ (s : List ℕ). s) (replicate n r)

-- length 287, version 1, 16 frames, the classic set; dB -20 at frames 4 to 11, 200 Hz at 5 to 10
abbrev pub k1 : List ℕ
k1 =
    (0 ∷ 0 ∷ 1 ∷ 31 ∷ 1 ∷ 0 ∷ 16 ∷ []) ++ ten ++ two ++ (0 ∷ 0 ∷ 0 ∷ 6 ∷ [])
    ++ times 4 (frame minus_sixty nil nil) ++ frame minus_twenty nil nil ++ times 6 (frame minus_twenty two_hundred one) ++ frame minus_twenty nil nil ++ times 4 (frame minus_sixty nil nil)

-- `region 4 12`, `nucleus 7 42200000`, `boundary 4` and `boundary 12`, each with its newline
abbrev pub k1_text : List ℕ
k1_text =
    (114 ∷ 101 ∷ 103 ∷ 105 ∷ 111 ∷ 110 ∷ 32 ∷ 52 ∷ 32 ∷ 49 ∷ 50 ∷ 10 ∷ [])
    ++ (110 ∷ 117 ∷ 99 ∷ 108 ∷ 101 ∷ 117 ∷ 115 ∷ 32 ∷ 55 ∷ 32 ∷ 52 ∷ 50 ∷ 50 ∷ 48 ∷ 48 ∷ 48 ∷ 48 ∷ 48 ∷ 10 ∷ [])
    ++ (98 ∷ 111 ∷ 117 ∷ 110 ∷ 100 ∷ 97 ∷ 114 ∷ 121 ∷ 32 ∷ 52 ∷ 10 ∷ [])
    ++ (98 ∷ 111 ∷ 117 ∷ 110 ∷ 100 ∷ 97 ∷ 114 ∷ 121 ∷ 32 ∷ 49 ∷ 50 ∷ 10 ∷ [])

-- ---- K2, K3
-- 0 but for a at 6 to 13 and b at 17 to 25 of 32 frames
abbrev two_runs : ℕ → ℕ → List Float
two_runs a b = replicate 6 (number 0) ++ replicate 8 (number a) ++ replicate 3 (number 0) ++ replicate 9 (number b) ++ replicate 6 (number 0)

-- dB -20 at 4 to 27, 200 Hz and then the second pitch; the classic set
abbrev pub stepped_to : ℕ → Take
stepped_to hz =
    record {
      db = replicate 4 (neg (number 60)) ++ replicate 24 (neg (number 20)) ++ replicate 4 (neg (number 60));
      pitch = two_runs 200 hz;
      voiced = two_runs 1 1;
      sonority = replicate 32 (round binary32 false 3 4);
      vowel = replicate 32 0;
      samples = [];
      settings = classic;
    }

-- lists with just the room that is asked for, and 99 at every place
abbrev pub lent : Lists
lent =
    record {
      frames = replicate 32 99;
      strengths = replicate 32 (number 99);
      xframes = replicate 32 99;
      xstrengths = replicate 32 (number 99);
      edges = replicate 32 99;
      bounds = replicate 33 99;
    }

-- nothing refused, the region 4 to 28, the pitches as given; two nuclei and four boundaries, no extra candidate
abbrev pub k2 : Left
k2 =
    record {
      answer = record { refusal = 0; found = true; start = 4; end = 28; nuclei = 2; extras = 0; edges = 0; boundaries = 4 };
      pitch = two_runs 200 238;
      lists =
          record {
            frames = 13 ∷ 21 ∷ replicate 30 99;
            strengths = number 40 ∷ number 40 ∷ replicate 30 (number 99);
            xframes = replicate 32 99;
            xstrengths = replicate 32 (number 99);
            edges = replicate 32 99;
            bounds = 4 ∷ 14 ∷ 17 ∷ 28 ∷ replicate 29 99;
          };
    }

-- the same with one nucleus, and boundaries at the ends only
abbrev pub k3 : Left
k3 =
    record {
      answer = record { refusal = 0; found = true; start = 4; end = 28; nuclei = 1; extras = 0; edges = 0; boundaries = 2 };
      pitch = two_runs 200 237;
      lists =
          record {
            frames = 13 ∷ replicate 31 99;
            strengths = number 40 ∷ replicate 31 (number 99);
            xframes = replicate 32 99;
            xstrengths = replicate 32 (number 99);
            edges = replicate 32 99;
            bounds = 4 ∷ 28 ∷ replicate 31 99;
          };
    }

-- ---- K8: 40 frames of -20 dB, the run 10 to 29
abbrev voice : List Float
voice = replicate 10 (number 0) ++ replicate 20 (number 200) ++ replicate 10 (number 0)

abbrev fall : List Float
fall = replicate 21 (round binary32 false 3 4) ++ (round binary32 false 1 2) ∷ replicate 18 (round binary32 false 1 4)

-- ---- the dip: 13 frames of -20 dB but frame 6, so that the level of 4 to 8 lies lower by a fifth of what this frame does; a break of pitch
-- between runs at 0 to 4 and 8 to 12, as short and as near as two syllable runs can be
abbrev dipped : ℕ → List Float
dipped d = replicate 6 (neg (number 20)) ++ neg (number d) ∷ replicate 6 (neg (number 20))

abbrev broken : List Float
broken = replicate 5 (number 200) ++ replicate 3 (number 0) ++ replicate 5 (number 238)

-- ---- stretches that adjoin, an octave apart: so many frames of 120 Hz, of 240 and of none
abbrev low : ℕ → List ℕ
low n = replicate n 120

abbrev high : ℕ → List ℕ
high n = replicate n 240

abbrev none : ℕ → List ℕ
none n = replicate n 0

-- ---- beside a limit: 10 frames of -60 dB, then n of -20
abbrev burst : ℕ → List Float
burst n = replicate 10 (neg (number 60)) ++ replicate n (neg (number 20))

-- ---- the rows
unfoldable pub known : List Row
known =
    -- K1, which prints the same with the dip of the defaults: its bytes tell that it is the classic one
    carries k1 classic
    ∷ prints k1 k1_text
    -- K2, K3
    ∷ marks (stepped_to 238) lent k2
    ∷ marks (stepped_to 237) lent k3
    -- K4
    ∷ repairs (118 ∷ 118 ∷ 200 ∷ 118 ∷ 118 ∷ []) (118 ∷ 118 ∷ 100 ∷ 118 ∷ 118 ∷ [])
    ∷ repairs (119 ∷ 119 ∷ 200 ∷ 119 ∷ 119 ∷ []) (119 ∷ 119 ∷ 200 ∷ 119 ∷ 119 ∷ [])
    -- K5
    ∷ repairs (110 ∷ 110 ∷ 200 ∷ 128 ∷ 128 ∷ []) (110 ∷ 110 ∷ 100 ∷ 128 ∷ 128 ∷ [])
    ∷ repairs (110 ∷ 110 ∷ 200 ∷ 130 ∷ 130 ∷ []) (110 ∷ 110 ∷ 200 ∷ 130 ∷ 130 ∷ [])
    -- K6
    ∷ recovers (0 ∷ 0 ∷ 0 ∷ []) (200 ∷ 218 ∷ 218 ∷ []) (200 ∷ 218 ∷ 218 ∷ [])
    ∷ recovers (0 ∷ 0 ∷ 0 ∷ []) (200 ∷ 219 ∷ 219 ∷ []) (0 ∷ 0 ∷ 0 ∷ [])
    -- K7
    ∷ repeats (pos 1 ∷ pos 2 ∷ pos 1 ∷ pos 2 ∷ []) 0 (1 ∷ 2 ∷ 3 ∷ 4 ∷ []) (ratio binary64 (pos 8) 10 ∷ ratio binary64 (pos 1) 1 ∷ ratio binary64 (pos 8) 10 ∷ ratio binary64 (pos 0) 1 ∷ [])
    -- K8
    ∷ splits (replicate 40 (neg (number 20))) voice fall 15 (22 ∷ []) (25 ∷ [])
    -- where the level dips by 2 dB, two nuclei are parted at the edges of the break under the defaults, at the lowest frame under the classic
    -- set; where it dips by 3 dB, at the lowest frame under both
    ∷ parts (dipped 30) broken (2 ∷ 10 ∷ []) (0 ∷ 5 ∷ 8 ∷ 13 ∷ []) (0 ∷ 6 ∷ 13 ∷ [])
    ∷ parts (dipped 35) broken (2 ∷ 10 ∷ []) (0 ∷ 6 ∷ 13 ∷ []) (0 ∷ 6 ∷ 13 ∷ [])
    -- 4 speech frames, and 5
    ∷ spans (burst 4) (record { refusal = 0; found = false; start = 0; end = 0 })
    ∷ spans (burst 5) (record { refusal = 0; found = true; start = 10; end = 15 })
    -- dB 1,000, and 1,001
    ∷ spans (number 1000 ∷ []) (record { refusal = 0; found = false; start = 0; end = 0 })
    ∷ spans (number 1001 ∷ []) (record { refusal = 4; found = false; start = 0; end = 0 })
    -- in the repair, frames with no pitch are passed over, up to 2 in a row; a fifth voiced frame 4 frames on is in another run
    ∷ repairs (118 ∷ 0 ∷ 118 ∷ 200 ∷ 118 ∷ 0 ∷ 0 ∷ 118 ∷ []) (118 ∷ 0 ∷ 118 ∷ 100 ∷ 118 ∷ 0 ∷ 0 ∷ 118 ∷ [])
    ∷ repairs (118 ∷ 118 ∷ 200 ∷ 118 ∷ 0 ∷ 0 ∷ 0 ∷ 118 ∷ []) (118 ∷ 118 ∷ 200 ∷ 118 ∷ 0 ∷ 0 ∷ 0 ∷ 118 ∷ [])
    -- a repaired pitch does not count for the others, nor does a pitch for itself
    ∷ repairs (100 ∷ 100 ∷ 100 ∷ 200 ∷ 200 ∷ 200 ∷ []) (200 ∷ 200 ∷ 200 ∷ 100 ∷ 100 ∷ 100 ∷ [])
    -- a pitch may come to lie below 40 Hz
    ∷ repairs (44 ∷ 44 ∷ 76 ∷ 44 ∷ 44 ∷ []) (44 ∷ 44 ∷ 38 ∷ 44 ∷ 44 ∷ [])
    -- two frames are not recovered, and a frame with no estimate ends a stretch; two stretches that adjoin both are
    ∷ recovers (0 ∷ 0 ∷ 0 ∷ 0 ∷ []) (200 ∷ 200 ∷ 0 ∷ 200 ∷ []) (0 ∷ 0 ∷ 0 ∷ 0 ∷ [])
    ∷ recovers (0 ∷ 0 ∷ 0 ∷ 0 ∷ 0 ∷ 0 ∷ []) (200 ∷ 200 ∷ 200 ∷ 300 ∷ 300 ∷ 300 ∷ []) (200 ∷ 200 ∷ 200 ∷ 300 ∷ 300 ∷ 300 ∷ [])
    -- of two stretches that adjoin, an octave apart, the one of 3 frames is put right beside 4 or more, and both change places where both have 3; longer ones are
    -- not put right: of 4 beside 4 and 5 beside 5 only some frames change, of 4 beside 20 two, of 6 none
    ∷ mends (none 7) (low 4 ++ high 3) (low 7)
    ∷ mends (none 7) (low 3 ++ high 4) (high 7)
    ∷ mends (none 6) (low 3 ++ high 3) (high 3 ++ low 3)
    ∷ mends (none 8) (low 4 ++ high 4) (low 2 ++ high 2 ++ low 2 ++ high 2)
    ∷ mends (none 10) (low 5 ++ high 5) (low 4 ++ high 1 ++ low 1 ++ high 4)
    ∷ mends (none 24) (low 20 ++ high 4) (low 22 ++ high 2)
    ∷ mends (none 12) (low 6 ++ high 6) (low 6 ++ high 6)
    -- 2 frames between them make no difference, 3 part them; a given run 3 frames later is repaired by itself
    ∷ mends (none 9) (low 4 ++ none 2 ++ high 3) (low 4 ++ none 2 ++ low 3)
    ∷ mends (none 10) (low 4 ++ none 3 ++ high 3) (low 4 ++ none 3 ++ high 3)
    ∷ mends (none 10 ++ high 2 ++ low 1 ++ high 2) (low 4 ++ high 3 ++ none 8) (low 7 ++ none 3 ++ high 5)
    -- a pitch 3 frames before a stretch or after it counts, and 4 frames off it does not
    ∷ recovers (100 ∷ 0 ∷ 0 ∷ 0 ∷ 0 ∷ 0 ∷ []) (0 ∷ 0 ∷ 0 ∷ 200 ∷ 200 ∷ 200 ∷ []) (100 ∷ 0 ∷ 0 ∷ 0 ∷ 0 ∷ 0 ∷ [])
    ∷ recovers (0 ∷ 0 ∷ 0 ∷ 0 ∷ 0 ∷ 100 ∷ []) (200 ∷ 200 ∷ 200 ∷ 0 ∷ 0 ∷ 0 ∷ []) (0 ∷ 0 ∷ 0 ∷ 0 ∷ 0 ∷ 100 ∷ [])
    ∷ recovers (100 ∷ 0 ∷ 0 ∷ 0 ∷ 0 ∷ 0 ∷ 0 ∷ 0 ∷ 0 ∷ 0 ∷ 100 ∷ []) (0 ∷ 0 ∷ 0 ∷ 0 ∷ 200 ∷ 200 ∷ 200 ∷ 0 ∷ 0 ∷ 0 ∷ 0 ∷ []) (100 ∷ 0 ∷ 0 ∷ 0 ∷ 200 ∷ 200 ∷ 200 ∷ 0 ∷ 0 ∷ 0 ∷ 100 ∷ [])
    ∷ []
