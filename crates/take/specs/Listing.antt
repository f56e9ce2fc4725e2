-- The listing of a take's marks, byte by byte. Definitions only.
use Rattle.std.specs.Prelude.{ℕ, ◌+◌, ◌*◌, Bool, not, eqb, length, get_or, Float, Option, None, Some}
use mathlib.Core.List.{List, [], ◌∷◌, ◌++◌, flat_map}
use Rattle.std.specs.Float.{nan, binary32}
use Rattle.std.specs.Float.Ieee.{to_bits}
use Rattle.lists.specs.Results.{keep}
use Rattle.region.specs.declared.Region.{Region}
use Rattle.take.specs.declared.told.Told.{Told}
use Rattle.take.specs.Text.{hex, decimal, line}

-- what a listing tells: the pitches as given and as left, the region, and the four lists
pub record Marks : Type 0 where
  pub given : List Float
  pub left : List Float
  pub region : Option Region
  pub frames : List ℕ
  pub strengths : List Float
  pub extra_frames : List ℕ
  pub extra_strengths : List Float
  pub edges : List ℕ
  pub boundaries : List ℕ

abbrev pub told_of : List Float → List Float → Option Region → List ℕ → List Float → List ℕ → List Float → List ℕ → List ℕ → Marks
told_of given left region frames strengths xframes xstrengths edges bounds = record { given = given; left = left; region = region; frames = frames; strengths = strengths; extra_frames = xframes; extra_strengths = xstrengths; edges = edges; boundaries = bounds }

-- what the code's record tells
abbrev pub marks_told : Told → Marks
marks_told t = told_of t.given.now t.left.now t.region t.frames.now t.strengths.now t.extra_frames.now t.extra_strengths.now t.edges.now t.boundaries.now

-- the words, in ASCII
abbrev pub pitch_word : List ℕ
pitch_word = 112 ∷ 105 ∷ 116 ∷ 99 ∷ 104 ∷ []

abbrev pub region_word : List ℕ
region_word = 114 ∷ 101 ∷ 103 ∷ 105 ∷ 111 ∷ 110 ∷ []

abbrev pub none_word : List ℕ
none_word = 110 ∷ 111 ∷ 110 ∷ 101 ∷ []

abbrev pub nucleus_word : List ℕ
nucleus_word = 110 ∷ 117 ∷ 99 ∷ 108 ∷ 101 ∷ 117 ∷ 115 ∷ []

abbrev pub extra_word : List ℕ
extra_word = 101 ∷ 120 ∷ 116 ∷ 114 ∷ 97 ∷ []

abbrev pub edge_word : List ℕ
edge_word = 101 ∷ 120 ∷ 116 ∷ 114 ∷ 97 ∷ 45 ∷ 101 ∷ 100 ∷ 103 ∷ 101 ∷ []

abbrev pub boundary_word : List ℕ
boundary_word = 98 ∷ 111 ∷ 117 ∷ 110 ∷ 100 ∷ 97 ∷ 114 ∷ 121 ∷ []

abbrev pub refused_word : List ℕ
refused_word = 114 ∷ 101 ∷ 102 ∷ 117 ∷ 115 ∷ 101 ∷ 100 ∷ []

-- a word and a number
abbrev pub frame_line : List ℕ → ℕ → List ℕ
frame_line w i = line w (decimal i ∷ [])

-- a word, a frame and the bits of an f32
abbrev pub mark_line : List ℕ → ℕ → Float → List ℕ
mark_line w i x = line w (decimal i ∷ hex (to_bits binary32 x) ∷ [])

-- a line for each frame of a list
abbrev pub frame_lines : List ℕ → List ℕ → List ℕ
frame_lines w is = flat_map (frame_line w) is

-- a line for each frame of a list with its strength
unfoldable pub mark_lines : List ℕ → List ℕ → List Float → List ℕ
mark_lines w [] xs = []
mark_lines w (i ∷ is) [] = []
mark_lines w (i ∷ is) (x ∷ xs) = mark_line w i x ++ mark_lines w is xs

-- whether a pitch has other bits than before; a NaN has those of every NaN, and no admitted pitch is one
abbrev pub repitched : Float → Float → Bool
repitched x y = not (eqb (to_bits binary32 x) (to_bits binary32 y))

-- a line for each frame whose pitch changed
unfoldable pub pitch_lines : List Float → List Float → List ℕ
pitch_lines given left = flat_map (λ (i : ℕ). mark_line pitch_word i (get_or left i nan)) (keep (λ (i : ℕ). repitched (get_or given i nan) (get_or left i nan)) 0 (length left))

-- the region's two ends, or that there is none
unfoldable pub region_line : Option Region → List ℕ
region_line None = line region_word (none_word ∷ [])
region_line (Some r) = line region_word (decimal r.start ∷ decimal r.end ∷ [])

unfoldable pub listing : Marks → List ℕ
listing m =
    pitch_lines m.given m.left
    ++ (region_line m.region
    ++ (mark_lines nucleus_word m.frames m.strengths
    ++ (mark_lines extra_word m.extra_frames m.extra_strengths
    ++ (frame_lines edge_word m.edges
    ++ frame_lines boundary_word m.boundaries))))

-- the listing of a refused take
abbrev pub refused_listing : ℕ → List ℕ
refused_listing number = frame_line refused_word number

-- the most bytes of a listing
abbrev pub largest_listing : ℕ
largest_listing = 116 * 2048 + 49
