-- The chain: every stage in turn, each on the tracks so far. Definitions only.
use Rattle.std.specs.Prelude.{ℕ, zero, suc, ◌+◌, ◌≤◌, ◌≡◌, true, false, List, [], ℤ, length, Option, None, Some, Result, Ok, Err, Float}
use Rattle.lists.specs.Results.{overlay}
use Rattle.region.specs.Speech.{marks_of, region_of}
use Rattle.region.specs.declared.Settings.{Settings}
use Rattle.region.specs.declared.Region.{Region}
use Rattle.repair.specs.Repair.{repaired}
use Rattle.recover.specs.Recovered.{recovered}
use Rattle.nuclei.specs.Nuclei.{Nucleus, nuclei_of, frames_of, strengths_of}
use Rattle.extra.specs.Extra.{extras_of, edges_of}
use Rattle.boundaries.specs.Boundaries.{boundaries_of}
use Rattle.admit.specs.Refusals.{chain_refusal}
use Rattle.admit.specs.declared.numbers.Refusal.{Refusal}
use Rattle.admit.specs.Numbers.{number_at}
use Rattle.chain.specs.declared.Marks.{Marks}
use Rattle.chain.specs.declared.Marked.{Marked}

-- what a call of the chain is given of a take
pub record Take : Type 0 where
  pub db : List Float
  pub pitch : List Float
  pub voiced : List Float
  pub sonority : List Float
  pub vowel : List ℕ
  pub samples : List ℤ
  pub settings : Settings

abbrev pub take_of : List Float → List Float → List Float → List Float → List ℕ → List ℤ → Settings → Take
take_of db pitch voiced sonority vowel samples p = record { db = db; pitch = pitch; voiced = voiced; sonority = sonority; vowel = vowel; samples = samples; settings = p }

-- what it makes of it: the pitch track and the marks
pub record Reading : Type 0 where
  pub pitch : List Float
  pub region : Option Region
  pub nuclei : List Nucleus
  pub extras : List Nucleus
  pub edges : List ℕ
  pub boundaries : List ℕ

-- the pitches as given, joined by those that are recovered where the speech marks allow it
abbrev pub joined_track : Take → List Float
joined_track t = recovered t.pitch t.samples (marks_of t.db t.settings) t.vowel

-- the pitches: the joined track, repaired
unfoldable pub pitches_of : Take → List Float
pitches_of t = repaired (joined_track t)

-- a pitch track and no marks
abbrev pub unmarked : List Float → Reading
unmarked pitch = record { pitch = pitch; region = None; nuclei = []; extras = []; edges = []; boundaries = [] }

module _ (db pitch voiced sonority : List Float) (p : Settings) where
  -- the marks of a region: nuclei, then extras and boundaries around them, of which neither reads the other
  abbrev pub reading_in : Option Region → Reading
  reading_in None = unmarked pitch
  reading_in (Some r) =
      let start = r.start in
      let end = r.end in
      let nuclei = nuclei_of db pitch start end p in
      let frames = frames_of nuclei in
      record {
        pitch = pitch;
        region = Some r;
        nuclei = nuclei;
        extras = extras_of db pitch sonority start end frames p;
        edges = edges_of db pitch sonority start end frames p;
        boundaries = boundaries_of db pitch voiced start end frames p;
      }

  -- the marks of the region that is found
  abbrev pub reading_with : Reading
  reading_with = reading_in (region_of db p)

-- of a take
unfoldable pub reading_of : Take → Reading
reading_of t = reading_with t.db (pitches_of t) t.voiced t.sonority t.settings

-- ---- what a call answers
-- the answer that names nothing, with a refusal's number, 0 for none
abbrev pub nothing : ℕ → Marks
nothing refusal = record { refusal = refusal; found = false; start = 0; end = 0; nuclei = 0; extras = 0; edges = 0; boundaries = 0 }

-- how many of each there are in a region
abbrev pub counted : Reading → Option Region → Marks
counted m None = nothing 0
counted m (Some r) =
    record { refusal = 0; found = true; start = r.start; end = r.end; nuclei = length m.nuclei; extras = length m.extras; edges = length m.edges; boundaries = length m.boundaries }

-- the answer that a reading is given by
abbrev pub answered : Reading → Marks
answered m = counted m m.region

-- the numbers that stand for what a call answers, as C callers get them: of what is found, with its region
abbrev pub marks_in : Option Region → Marked → Marks
marks_in None m = record { refusal = 0; found = false; start = 0; end = 0; nuclei = m.nuclei; extras = m.extras; edges = m.edges; boundaries = m.boundaries }
marks_in (Some r) m = record { refusal = 0; found = true; start = r.start; end = r.end; nuclei = m.nuclei; extras = m.extras; edges = m.edges; boundaries = m.boundaries }

-- of a refusal, or of what is found
abbrev pub marks_for : Result Marked Refusal → Marks
marks_for (Ok m) = marks_in m.region m
marks_for (Err r) = nothing (number_at r)

-- by the refusal number: the reading of the take, or its pitches as they were and no marks
unfoldable pub reading_by : Take → ℕ → Reading
reading_by t zero = reading_of t
reading_by t (suc k) = unmarked t.pitch

-- by the refusal number: the answer that the reading is given by, or the number
unfoldable pub answer_by : Take → ℕ → Marks
answer_by t zero = answered (reading_of t)
answer_by t (suc k) = nothing (suc k)

-- the refusal number of a call by the lengths of six lists: frames and strengths of nuclei and of extras, edges, boundaries
abbrev pub refusal_for : Take → ℕ → ℕ → ℕ → ℕ → ℕ → ℕ → ℕ
refusal_for t = chain_refusal t.db t.pitch t.voiced t.sonority t.vowel (length t.samples) t.settings

-- ---- what it leaves, in result lists L of any kind
pub record LeftOf (L : Type 0) : Type 0 where
  pub answer : Marks
  pub pitch : List Float
  pub lists : L

module _ {L : Type 0} where
  -- a refusal's number, and all as it was
  abbrev pub as_lent : Take → L → ℕ → LeftOf L
  as_lent t l number = record { answer = nothing number; pitch = t.pitch; lists = l }

  -- `written` puts a reading at the front of each list, whose entries past it stay
  module _ (written : Reading → L → L) where
    -- by a reading
    abbrev pub left_by : Reading → L → LeftOf L
    left_by m l = record { answer = answered m; pitch = m.pitch; lists = written m l }

    -- by the refusal number
    abbrev pub leaves : Take → L → ℕ → LeftOf L
    leaves t l zero = left_by (reading_of t) l
    leaves t l (suc k) = as_lent t l (suc k)

-- ---- over plain lists
pub record Lists : Type 0 where
  pub frames : List ℕ
  pub strengths : List Float
  pub xframes : List ℕ
  pub xstrengths : List Float
  pub edges : List ℕ
  pub bounds : List ℕ

abbrev pub lists_of : List ℕ → List Float → List ℕ → List Float → List ℕ → List ℕ → Lists
lists_of frames strengths xframes xstrengths edges bounds = record { frames = frames; strengths = strengths; xframes = xframes; xstrengths = xstrengths; edges = edges; bounds = bounds }

-- each list has room for what n frames can give
abbrev pub Room : ℕ → Lists → Type 0
Room n l = (n ≤ length l.frames) × (n ≤ length l.strengths) × (n ≤ length l.xframes) × (n ≤ length l.xstrengths) × (n ≤ length l.edges) × (n + 1 ≤ length l.bounds)

abbrev pub written : Reading → Lists → Lists
written m l =
    lists_of (overlay (frames_of m.nuclei) l.frames) (overlay (strengths_of m.nuclei) l.strengths)
    (overlay (frames_of m.extras) l.xframes) (overlay (strengths_of m.extras) l.xstrengths)
    (overlay m.edges l.edges) (overlay m.boundaries l.bounds)

abbrev pub Left : Type 0
Left = LeftOf Lists

-- the refusal number of a call, 0 for none
abbrev pub refusal_of : Take → Lists → ℕ
refusal_of t l = refusal_for t (length l.frames) (length l.strengths) (length l.xframes) (length l.xstrengths) (length l.edges) (length l.bounds)

-- the whole chain
unfoldable pub chain_of : Take → Lists → Left
chain_of t l = leaves written t l (refusal_of t l)

-- ---- what a call returns and leaves, as its contract says: `old` is lent, `new` comes back
-- of a reading
abbrev pub MarkCall : Reading → Lists → Lists → Marks → Type 0
MarkCall m old new r = (r ≡ answered m) × (new ≡ written m old)

-- of the whole chain; `pitch` is the track that it leaves
abbrev pub ChainCall : Take → Lists → Lists → List Float → Marks → Type 0
ChainCall t old new pitch r = ◌≡◌ {A = Left} (record { answer = r; pitch = pitch; lists = new }) (chain_of t old)
