-- The refusals of the specification: its table, and what each entry is given. Definitions only.
use Rattle.std.specs.Prelude.{ℕ, suc, Bool, ◌&&◌, List, [], ◌∷◌, map, leb, eqb, length, Float}
use Rattle.floats.specs.Plain.{is_between}
use Rattle.region.specs.Defaults.{defaults}
use Rattle.region.specs.declared.Settings.{Settings}
use Rattle.admit.specs.Values.{number, db_admitted, pitch_admitted, share_admitted, mark_admitted, all_of, rising}
use Rattle.admit.specs.First.{Test, first_failed}

-- what an entry may be given, as far as it is tested; n is how many frames it has
pub data Given : Type 0 where
  Size Gap Samples : ℕ → Given
  Alike Room : (n m : ℕ) → Given
  Margin Dip : Float → Given
  Db Voiced Sonority : List Float → Given
  Pitch : (lo hi : ℕ) → List Float → Given
  Marks : List ℕ → Given
  Region : (start end n : ℕ) → Given
  Nuclei : (n : ℕ) → List ℕ → Given

abbrev test : ℕ → Bool → Test
test number passed = record { number = number; passed = passed }

-- the table: the number of each refusal, and what passes
unfoldable pub tested : Given → Test
tested (Size m) = test 1 (leb m 2048)
tested (Alike n m) = test 2 (eqb m n)
tested (Margin x) = test 3 (is_between (number 0) (number 200) x)
tested (Dip x) = test 3 (is_between (number 0) (number 200) x)
tested (Gap k) = test 3 (leb k 1000)
tested (Db track) = test 4 (all_of db_admitted track)
tested (Pitch lo hi track) = test 5 (all_of (pitch_admitted (number lo) (number hi)) track)
tested (Voiced track) = test 5 (all_of share_admitted track)
tested (Sonority track) = test 6 (all_of share_admitted track)
tested (Marks marks) = test 6 (all_of mark_admitted marks)
tested (Region start end n) = test 7 (leb start end && leb end n)
tested (Nuclei n frames) = test 8 (rising 0 n frames)
tested (Samples m) = test 9 (leb m 327680)
tested (Room n m) = test 10 (leb n m)

-- the order in which the numbers are tested
abbrev pub order : List ℕ
order = 1 ∷ 2 ∷ 3 ∷ 4 ∷ 5 ∷ 6 ∷ 7 ∷ 8 ∷ 9 ∷ 10 ∷ []

-- the number of a call's refusal, 0 for none
unfoldable pub refusal : List Given → ℕ
refusal given = first_failed order (map tested given)

abbrev pub settings : Settings → List Given
settings p = Margin p.margin ∷ Dip p.dip ∷ Gap p.gap ∷ []

-- speech marks, by the length of their list
unfoldable pub speech_refusal : List Float → Settings → ℕ → ℕ
speech_refusal db p marks = refusal (Size (length db) ∷ Db db ∷ Room (length db) marks ∷ settings p)

-- the region
unfoldable pub region_refusal : List Float → Settings → ℕ
region_refusal db p = refusal (Size (length db) ∷ Db db ∷ settings p)

-- repaired pitch
unfoldable pub repair_refusal : List Float → ℕ
repair_refusal pitch = refusal (Size (length pitch) ∷ Pitch 40 2000 pitch ∷ [])

-- recovered pitch, by the number of samples
unfoldable pub recovery_refusal : List Float → ℕ → List ℕ → List ℕ → ℕ
recovery_refusal pitch samples speech vowel =
    refusal
    (Size (length pitch) ∷ Size (length speech) ∷ Size (length vowel)
    ∷ Pitch 20 4000 pitch ∷ Marks speech ∷ Marks vowel ∷ Samples samples ∷ [])

-- nuclei, by the lengths of their two lists
unfoldable pub nuclei_refusal : List Float → List Float → ℕ → ℕ → Settings → ℕ → ℕ → ℕ
nuclei_refusal db pitch start end p frames strengths =
    let n = length db in
    refusal
    (Size n ∷ Size (length pitch) ∷ Alike n (length pitch)
    ∷ Db db ∷ Pitch 20 4000 pitch ∷ Region start end n ∷ Room n frames ∷ Room n strengths ∷ settings p)

-- extra candidates, by the lengths of their two lists and of the edges; a sonority of another length is admitted
unfoldable pub extras_refusal : List Float → List Float → List Float → ℕ → ℕ → List ℕ → Settings → ℕ → ℕ → ℕ → ℕ
extras_refusal db pitch sonority start end nuclei p frames strengths edges =
    let n = length db in
    refusal
    (Size n ∷ Size (length pitch) ∷ Size (length sonority) ∷ Size (length nuclei) ∷ Alike n (length pitch)
    ∷ Db db ∷ Pitch 20 4000 pitch ∷ Sonority sonority ∷ Region start end n ∷ Nuclei n nuclei
    ∷ Room n frames ∷ Room n strengths ∷ Room n edges ∷ settings p)

-- boundaries under given settings, by the length of their list, which needs one more than n
unfoldable pub boundaries_with_refusal : List Float → List Float → List Float → ℕ → ℕ → List ℕ → Settings → ℕ → ℕ
boundaries_with_refusal db pitch voiced start end nuclei p bounds =
    let n = length db in
    refusal
    (Size n ∷ Size (length pitch) ∷ Size (length voiced) ∷ Size (length nuclei) ∷ Alike n (length pitch) ∷ Alike n (length voiced)
    ∷ Db db ∷ Pitch 20 4000 pitch ∷ Voiced voiced ∷ Region start end n ∷ Nuclei n nuclei ∷ Room (suc n) bounds ∷ settings p)

-- boundaries under the defaults, which pass
unfoldable pub boundaries_refusal : List Float → List Float → List Float → ℕ → ℕ → List ℕ → ℕ → ℕ
boundaries_refusal db pitch voiced start end nuclei bounds = boundaries_with_refusal db pitch voiced start end nuclei defaults bounds

-- the chain, by the number of samples and the lengths of the lists of nuclei (frames, strengths), extras (frames, strengths), edges and boundaries
unfoldable pub chain_refusal : List Float → List Float → List Float → List Float → List ℕ → ℕ → Settings → ℕ → ℕ → ℕ → ℕ → ℕ → ℕ → ℕ
chain_refusal db pitch voiced sonority vowel samples p frames strengths xframes xstrengths edges bounds =
    let n = length db in
    refusal
    (Size n ∷ Size (length pitch) ∷ Size (length voiced) ∷ Size (length sonority) ∷ Size (length vowel)
    ∷ Alike n (length pitch) ∷ Alike n (length voiced)
    ∷ Db db ∷ Pitch 40 2000 pitch ∷ Voiced voiced ∷ Sonority sonority ∷ Marks vowel ∷ Samples samples
    ∷ Room n frames ∷ Room n strengths ∷ Room n xframes ∷ Room n xstrengths ∷ Room n edges ∷ Room (suc n) bounds ∷ settings p)
