-- Scaffolding of the layer over records: plain lists of 2,048 entries that stand for a list of records, and are refused as it would be. Definitions only.
use Rattle.std.specs.Prelude.{ℕ, ◌≤◌, ◌≡◌, List, length, Float}
use Rattle.lists.specs.Results.{overlay, Listed, Front}
use Rattle.region.specs.declared.Settings.{Settings}
use Rattle.nuclei.specs.Nuclei.{Nucleus, frames_of, strengths_of}
use Rattle.admit.specs.Refusals.{nuclei_refusal, extras_refusal}
use Rattle.entries.specs.Stages.{nuclei_entry, extras_entry, edges_entry}
use Rattle.entries.specs.declared.stages.Answer.{Answer}
use Rattle.entries.specs.declared.stages.Counted.{Counted}
use Rattle.chain.specs.Chain.{Take, Lists, refusal_for, reading_by, answer_by}
use Rattle.chain.specs.declared.Marks.{Marks}

-- lists that stand for any list of records: no take has more nuclei
abbrev pub Scratch : List ℕ → List Float → Type 0
Scratch frames strengths = (length frames ≡ 2048) × (length strengths ≡ 2048)

-- what two lists hold of nuclei at their front, as far as the count r, for a list of records with so much room
pub record Laid (ns : List Nucleus) (frames : List ℕ) (strengths : List Float) (room r : ℕ) : Type 0 where
  pub framed : Front (frames_of ns) frames r
  pub strong : Front (strengths_of ns) strengths r
  pub fits : r ≤ room

-- `nuclei_within`
abbrev pub NucleiWithin : List Float → List Float → ℕ → ℕ → Settings → ℕ → List ℕ → List Float → Answer → Type 0
NucleiWithin db pitch start end p room frames strengths r =
    (r.refusal ≡ nuclei_refusal db pitch start end p room room) × Laid (nuclei_entry db pitch start end p room room) frames strengths room r.count

-- `extras_within`
abbrev pub ExtrasWithin : List Float → List Float → List Float → ℕ → ℕ → List ℕ → Settings → ℕ → List ℕ → List Float → List ℕ → List ℕ → Counted → Type 0
ExtrasWithin db pitch sonority start end nuclei p room frames strengths old_edges new_edges r =
    let e = length old_edges in
    (r.refusal ≡ extras_refusal db pitch sonority start end nuclei p room room e)
    × Laid (extras_entry db pitch sonority start end nuclei p room room e) frames strengths room r.extras
    × Listed (edges_entry db pitch sonority start end nuclei p room room e) old_edges new_edges r.edges

-- `chain_within`: nuclei and extras at the front of their lists, edges and boundaries over what was lent; `pitch` is the track that it leaves
abbrev pub ChainWithin : Take → ℕ → ℕ → List ℕ → List ℕ → Lists → List Float → Marks → Type 0
ChainWithin t room xroom old_edges old_bounds new pitch r =
    let number = refusal_for t room room xroom xroom (length old_edges) (length old_bounds) in
    let m = reading_by t number in
    (r ≡ answer_by t number) × (pitch ≡ m.pitch)
    × Laid m.nuclei new.frames new.strengths room r.nuclei × Laid m.extras new.xframes new.xstrengths xroom r.extras
    × (new.edges ≡ overlay m.edges old_edges) × (new.bounds ≡ overlay m.boundaries old_bounds)
