-- The take file: whether its bytes agree, its refusal, and the settings and tracks in it. Definitions only.
use Rattle.std.specs.Prelude.{ℕ, zero, suc, ◌+◌, ◌*◌, Bool, cond, ◌&&◌, List, [], ◌∷◌, map, leb, eqb, length, get_or, take, drop, Float}
use Rattle.region.specs.declared.Settings.{Settings}
use Rattle.take.specs.Fields.{half_at, word_at, float_at}

-- how many frames the head names
abbrev pub frame_count : List ℕ → ℕ
frame_count file = half_at file 5

-- the bytes of the largest take, 2,048 frames
abbrev pub largest : ℕ
largest = 19 + 17 * 2048

-- whether the first bytes of a file agree with its size: the head is there, the version is 1, the length is that of the frames, and as many bytes follow
unfoldable pub agrees : List ℕ → ℕ → Bool
agrees head size = leb 7 (length head) && (eqb (get_or head 4 0) 1 && (eqb (word_at head 0) (15 + 17 * frame_count head) && eqb size (4 + word_at head 0)))

-- the refusal's number by the first bytes and the size, 0 where there is none
unfoldable pub refusal_by : List ℕ → ℕ → ℕ
refusal_by head size = cond (agrees head size) (cond (leb (frame_count head) 2048) 0 1) 11

-- of a whole file
abbrev pub file_refusal : List ℕ → ℕ
file_refusal file = refusal_by file (length file)

-- n records of 17 bytes
unfoldable pub records : ℕ → List ℕ → List (List ℕ)
records zero s = []
records (suc n) s = take 17 s ∷ records n (drop 17 s)

-- the records of a take
abbrev pub records_in : List ℕ → List (List ℕ)
records_in file = records (frame_count file) (drop 19 file)

-- the f32 at the same place of each record
abbrev pub track_at : ℕ → List (List ℕ) → List Float
track_at at rs = map (λ (r : List ℕ). float_at r at) rs

-- the byte that ends each record
abbrev pub marks_in : List (List ℕ) → List ℕ
marks_in rs = map (λ (r : List ℕ). get_or r 16 0) rs

-- a take as its file brings it
pub record FileTake : Type 0 where
  pub settings : Settings
  pub db : List Float
  pub pitch : List Float
  pub voiced : List Float
  pub sonority : List Float
  pub vowel : List ℕ

abbrev pub settings_in : List ℕ → Settings
settings_in file = record { margin = float_at file 7; dip = float_at file 11; gap = word_at file 15 }

unfoldable pub take_in : List ℕ → FileTake
take_in file =
    record {
      settings = settings_in file;
      db = track_at 0 (records_in file);
      pitch = track_at 4 (records_in file);
      voiced = track_at 8 (records_in file);
      sonority = track_at 12 (records_in file);
      vowel = marks_in (records_in file);
    }

-- what a file is read as: the number of its refusal, or its take
pub data FileReading : Type 0 where
  refused : ℕ → FileReading
  taken : FileTake → FileReading

unfoldable pub read_take : List ℕ → FileReading
read_take file = cond (eqb (file_refusal file) 0) (taken (take_in file)) (refused (file_refusal file))
