-- Nuclei as the records that a caller's list holds, and what each entry over records returns and leaves. Definitions only.
use Rattle.std.specs.Prelude.{ℕ, ◌≡◌, List, map, length, Float}
use Rattle.lists.specs.Results.{overlay, Listed}
use Rattle.region.specs.declared.Settings.{Settings}
use Rattle.nuclei.specs.Nuclei as found
use Rattle.admit.specs.Refusals.{nuclei_refusal, extras_refusal}
use Rattle.entries.specs.Stages.{nuclei_entry, extras_entry, edges_entry}
use Rattle.entries.specs.declared.stages.Answer.{Answer}
use Rattle.entries.specs.declared.stages.Counted.{Counted}
use Rattle.chain.specs.Chain.{Take, Reading, LeftOf, refusal_for, leaves}
use Rattle.chain.specs.Promises.{Returned, returned_in}
use Rattle.chain.specs.declared.Marks.{Marks}
use Rattle.kiddwyr.specs.declared.Nucleus.{Nucleus}

-- a nucleus as a record
abbrev pub record_of : found.Nucleus → Nucleus
record_of n = record { frame = n.frame; strength = n.strength }

-- nuclei as records
abbrev pub records_of : List found.Nucleus → List Nucleus
records_of = map record_of

-- the frames of records
abbrev pub frames_in : List Nucleus → List ℕ
frames_in = map (λ (n : Nucleus). n.frame)

-- ---- the chain over records
-- the lent result lists
pub record Lists : Type 0 where
  pub nuclei : List Nucleus
  pub extras : List Nucleus
  pub edges : List ℕ
  pub bounds : List ℕ

abbrev pub lists_of : List Nucleus → List Nucleus → List ℕ → List ℕ → Lists
lists_of nuclei extras edges bounds = record { nuclei = nuclei; extras = extras; edges = edges; bounds = bounds }

-- a reading at the front of each list, whose entries past it stay
abbrev pub written : Reading → Lists → Lists
written m l =
    lists_of (overlay (records_of m.nuclei) l.nuclei) (overlay (records_of m.extras) l.extras) (overlay m.edges l.edges) (overlay m.boundaries l.bounds)

abbrev pub Left : Type 0
Left = LeftOf Lists

-- the refusal number of a call, 0 for none: a list of records is as long as its frames and its strengths
abbrev pub refusal_of : Take → Lists → ℕ
refusal_of t l = let n = length l.nuclei in let x = length l.extras in refusal_for t n n x x (length l.edges) (length l.bounds)

-- the whole chain
unfoldable pub chain_of : Take → Lists → Left
chain_of t l = leaves written t l (refusal_of t l)

-- what a caller reads off a call
abbrev pub returned : Left → Returned
returned = returned_in (λ (l : Lists). frames_in l.nuclei) (λ (l : Lists). frames_in l.extras) (λ (l : Lists). l.edges) (λ (l : Lists). l.bounds)

-- ---- what a call returns and leaves, as its contract says: `old` is lent, `new` comes back
-- `kiddwyr_nuclei`
abbrev pub NucleiCall : List Float → List Float → ℕ → ℕ → Settings → List Nucleus → List Nucleus → Answer → Type 0
NucleiCall db pitch start end p old new r =
    let n = length old in
    (r.refusal ≡ nuclei_refusal db pitch start end p n n) × Listed (records_of (nuclei_entry db pitch start end p n n)) old new r.count

-- `kiddwyr_extras`, around the frames of nuclei
abbrev pub ExtrasCall : List Float → List Float → List Float → ℕ → ℕ → List ℕ → Settings → List Nucleus → List Nucleus → List ℕ → List ℕ → Counted → Type 0
ExtrasCall db pitch sonority start end nuclei p old new old_edges new_edges r =
    let n = length old in
    let e = length old_edges in
    (r.refusal ≡ extras_refusal db pitch sonority start end nuclei p n n e)
    × Listed (records_of (extras_entry db pitch sonority start end nuclei p n n e)) old new r.extras
    × Listed (edges_entry db pitch sonority start end nuclei p n n e) old_edges new_edges r.edges

-- `kiddwyr_chain`; `pitch` is the track that it leaves
abbrev pub ChainCall : Take → Lists → Lists → List Float → Marks → Type 0
ChainCall t old new pitch r = ◌≡◌ {A = Left} (record { answer = r; pitch = pitch; lists = new }) (chain_of t old)
