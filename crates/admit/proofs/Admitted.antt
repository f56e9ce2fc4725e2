-- What admission gives: where an entry's refusal number is 0 every test is passed, and so what the stage behind the entry requires holds. Assumes nothing.
use Prim.Native.Nat.{ℕ, ◌+◌, ◌≤◌}
use native.Mathlib.Omega.{arith}
use mathlib.Core.Path.{◌≡◌, refl}
use mathlib.Core.Bool.{true, ◌&&◌}
use mathlib.Core.List.{List, map}
use borrow.Author.Tests.{leb-true, ltb-true, eqb-true}
use lib.Dec.{leb}
use lib.ListN.{length}
use lib.Ieee.{Float, of_int, le}
use Rattle.lists.specs.By.{Each}
use Rattle.lists.specs.Marks.{member}
use Rattle.lists.specs.Sorted.{StrictlyRises}
use Rattle.lists.proofs.Tests.{and_cases}
use Rattle.region.specs.Defaults.{defaults}
use Rattle.region.specs.declared.Settings.{Settings}
use Rattle.repair.specs.Repair.{Pitches}
use Rattle.lists.proofs.Keys.{Held}
use Rattle.admit.specs.Values.{number, pitch_admitted, all_of}
use Rattle.admit.specs.Refusals.{order, tested, refusal, settings, speech_refusal, region_refusal, repair_refusal, recovery_refusal, nuclei_refusal, extras_refusal, boundaries_with_refusal, chain_refusal}
use Rattle.admit.proofs.Ranges.{repairable_is}
use Rattle.admit.proofs.Every.{each_passed, rising_is}
use Rattle.admit.proofs.First.{all_passed}

all_repairable : (pitch : List Float) → Held pitch → all_of (pitch_admitted (number 40) (number 2000)) pitch ≡ true → Pitches 40 2000 pitch
all_repairable pitch = each_passed (pitch_admitted (number 40) (number 2000)) _ _ repairable_is pitch

is_inside : (start end n : ℕ) → (leb start end && leb end n) ≡ true → (start ≤ end) × (end ≤ n)
is_inside start end n h = let t = and_cases (leb start end) (leb end n) h in (leb-true start end t.0, leb-true end n t.1)

-- the defaults pass, so that no entry under them refuses with 3
pub defaults_pass : Each (λ t. t.passed ≡ true) (map tested (settings defaults))
unfolding tested defaults of_int le
defaults_pass = (refl, (refl, (refl, tt)))

-- ---- the entries, test by test
module _ (db : List Float) (p : Settings) where
  pub speech_admitted : (marks : ℕ) → speech_refusal db p marks ≡ 0 → (length db ≤ 2048) × (length db ≤ marks)
  unfolding speech_refusal refusal tested all_of member
  speech_admitted marks h =
      let t = all_passed order _ refl refl h in
      (leb-true (length db) 2048 t.0, leb-true (length db) marks t.1.1.0)

  pub region_admitted : region_refusal db p ≡ 0 → length db ≤ 2048
  unfolding region_refusal refusal tested all_of member
  region_admitted h = leb-true (length db) 2048 (all_passed order _ refl refl h).0

pub repair_admitted : (pitch : List Float) → Held pitch → repair_refusal pitch ≡ 0 → (length pitch ≤ 2048) × Pitches 40 2000 pitch
unfolding repair_refusal refusal tested all_of member
repair_admitted pitch f h =
    let t = all_passed order _ refl refl h in
    (leb-true (length pitch) 2048 t.0, all_repairable pitch f t.1.0)

pub recovery_admitted : (pitch : List Float) (samples : ℕ) (speech vowel : List ℕ) → recovery_refusal pitch samples speech vowel ≡ 0 → length pitch ≤ 2048
unfolding recovery_refusal refusal tested all_of member
recovery_admitted pitch samples speech vowel h = leb-true (length pitch) 2048 (all_passed order _ refl refl h).0

pub nuclei_admitted : (db pitch : List Float) (start end : ℕ) (p : Settings) (frames strengths : ℕ)
    → nuclei_refusal db pitch start end p frames strengths ≡ 0
    → (length db ≤ 2048) × (length pitch ≡ length db) × (end ≤ length db) × (length db ≤ frames) × (length db ≤ strengths)
unfolding nuclei_refusal refusal tested all_of member
nuclei_admitted db pitch start end p frames strengths h =
    let n = length db in
    let t = all_passed order _ refl refl h in
    let region = t.1.1.1.1.1 in
    (leb-true n 2048 t.0, eqb-true (length pitch) n t.1.1.0, (is_inside start end n region.0).1, leb-true n frames region.1.0, leb-true n strengths region.1.1.0)

pub extras_admitted : (db pitch sonority : List Float) (start end : ℕ) (nuclei : List ℕ) (p : Settings) (frames strengths edges : ℕ)
    → extras_refusal db pitch sonority start end nuclei p frames strengths edges ≡ 0
    → (length db ≤ 2048) × (length pitch ≡ length db) × (end ≤ length db) × (length db ≤ frames) × (length db ≤ strengths) × (length db ≤ edges)
unfolding extras_refusal refusal tested all_of member
extras_admitted db pitch sonority start end nuclei p frames strengths edges h =
    let n = length db in
    let t = all_passed order _ refl refl h in
    let alike = t.1.1.1.1 in
    let region = alike.1.1.1.1 in
    let rooms = region.1.1 in
    (leb-true n 2048 t.0, eqb-true (length pitch) n alike.0, (is_inside start end n region.0).1, leb-true n frames rooms.0, leb-true n strengths rooms.1.0, leb-true n edges rooms.1.1.0)

module _ (db pitch voiced : List Float) (start end : ℕ) (nuclei : List ℕ) where
  -- what is asked of the tracks, of the nuclei and of the list
  abbrev pub BoundariesAdmitted : ℕ → Type 0
  BoundariesAdmitted bounds =
      ((start ≤ end) × (end ≤ length db) × (length db ≤ 2048) × (length pitch ≡ length db) × (length voiced ≡ length db))
      × (StrictlyRises 0 (length db) nuclei × (length db + 1 ≤ bounds))

  pub boundaries_with_admitted : (p : Settings) (bounds : ℕ) → boundaries_with_refusal db pitch voiced start end nuclei p bounds ≡ 0 → BoundariesAdmitted bounds
  unfolding boundaries_with_refusal refusal tested all_of member
  boundaries_with_admitted p bounds h =
      let n = length db in
      let t = all_passed order _ refl refl h in
      let alike = t.1.1.1.1 in
      let region = alike.1.1.1.1.1 in
      let at = is_inside start end n region.0 in
      let more = ltb-true n bounds region.1.1.0 in
      ((at.0, at.1, leb-true n 2048 t.0, eqb-true (length pitch) n alike.0, eqb-true (length voiced) n alike.1.0), (rising_is 0 n nuclei region.1.0, omega arith))

pub record ChainAdmitted (db pitch voiced : List Float) (frames strengths xframes xstrengths edges bounds : ℕ) : Type 0 where
  pub size : length db ≤ 2048
  pub pitches : length pitch ≡ length db
  pub voices : length voiced ≡ length db
  pub repairs : Pitches 40 2000 pitch
  pub frame_room : length db ≤ frames
  pub strength_room : length db ≤ strengths
  pub xframe_room : length db ≤ xframes
  pub xstrength_room : length db ≤ xstrengths
  pub edge_room : length db ≤ edges
  pub bound_room : length db + 1 ≤ bounds

pub chain_admitted : (db pitch voiced sonority : List Float) (vowel : List ℕ) (samples : ℕ) (p : Settings) (frames strengths xframes xstrengths edges bounds : ℕ)
    → Held pitch → chain_refusal db pitch voiced sonority vowel samples p frames strengths xframes xstrengths edges bounds ≡ 0
    → ChainAdmitted db pitch voiced frames strengths xframes xstrengths edges bounds
unfolding chain_refusal refusal tested all_of member
chain_admitted db pitch voiced sonority vowel samples p frames strengths xframes xstrengths edges bounds f h =
    let n = length db in
    let t = all_passed order _ refl refl h in
    let alike = t.1.1.1.1.1 in
    let rooms = alike.1.1.1.1.1.1.1.1 in
    let more = ltb-true n bounds rooms.1.1.1.1.1.0 in
    record {
      size = leb-true n 2048 t.0;
      pitches = eqb-true (length pitch) n alike.0;
      voices = eqb-true (length voiced) n alike.1.0;
      repairs = all_repairable pitch f alike.1.1.1.0;
      frame_room = leb-true n frames rooms.0;
      strength_room = leb-true n strengths rooms.1.0;
      xframe_room = leb-true n xframes rooms.1.1.0;
      xstrength_room = leb-true n xstrengths rooms.1.1.1.0;
      edge_room = leb-true n edges rooms.1.1.1.1.0;
      bound_room = omega arith;
    }
