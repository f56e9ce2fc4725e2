-- The text that answers a take file. Definitions only.
use Rattle.std.specs.Prelude.{ℕ, zero, suc, ◌+◌, ◌≤◌, ◌≡◌, cond, List, [], eqb, length, take, Float, Option, None, Some}
use Rattle.nuclei.specs.Nuclei.{frames_of, strengths_of}
use Rattle.region.specs.declared.Region.{Region}
use Rattle.region.specs.Speech.{spanning}
use Rattle.chain.specs.declared.Marks.{Marks}
use Rattle.chain.specs.Chain.{Take, Reading, Lists, Left, take_of, reading_of, refusal_for}
use Rattle.take.specs.File.{FileTake, FileReading, read_take}
use Rattle.take.specs.File.FileReading.{refused, taken}
use Rattle.take.specs.Listing.{told_of, listing, refused_listing, Marks as Told}

-- ---- a take
-- what its listing tells: the pitches as given beside those of its reading, and the reading's marks
abbrev pub told : List Float → Reading → Told
told given m =
    told_of given m.pitch m.region (frames_of m.nuclei) (strengths_of m.nuclei) (frames_of m.extras) (strengths_of m.extras) m.edges m.boundaries

-- the chain's refusal number where each list has the entries that it needs
abbrev pub refusal_in : Take → ℕ
refusal_in t =
    let n = length t.pitch in
    refusal_for t n n n n n (n + 1)

-- by that number: the listing of the reading, or the refusal
abbrev pub text_by : Take → ℕ → List ℕ
text_by t zero = listing (told t.pitch (reading_of t))
text_by t (suc k) = refused_listing (suc k)

unfoldable pub text_of : Take → List ℕ
text_of t = text_by t (refusal_in t)

-- ---- a file
-- its take, which has no samples
abbrev pub unsampled : FileTake → Take
unsampled t = take_of t.db t.pitch t.voiced t.sonority t.vowel [] t.settings

abbrev pub answer_to : FileReading → List ℕ
answer_to (refused number) = refused_listing number
answer_to (taken t) = text_of (unsampled t)

-- what the program prints for it
unfoldable pub printed : List ℕ → List ℕ
printed file = answer_to (read_take file)

-- ---- a call of the chain
-- the region in what it answers
abbrev pub region_told : Marks → Option Region
region_told a = cond a.found (Some (spanning a.start a.end)) None

-- the text of what it answers and leaves: the entries that it answers for, and nothing past them
unfoldable pub shown : List Float → Left → List ℕ
shown given o =
    let a = o.answer in
    let l = o.lists in
    cond (eqb a.refusal 0)
    (listing
    (told_of given o.pitch (region_told a) (take a.nuclei l.frames) (take a.nuclei l.strengths)
    (take a.extras l.xframes) (take a.extras l.xstrengths) (take a.edges l.edges) (take a.boundaries l.bounds)))
    (refused_listing a.refusal)

-- lists of at most the entries that n frames need
pub record Fitting (n : ℕ) (l : Lists) : Type 0 where
  pub few : n ≤ 2048
  pub frames : length l.frames ≤ n
  pub strengths : length l.strengths ≡ length l.frames
  pub xframes : length l.xframes ≤ n
  pub xstrengths : length l.xstrengths ≡ length l.xframes
  pub edges : length l.edges ≤ n
  pub bounds : length l.bounds ≤ n + 1
