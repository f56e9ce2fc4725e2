-- `chain` meets its contract: what admission gives is what the stages ask. Assumes nothing.
use borrow.Author.Rules.{rules}
use mathlib.Core.Path.{refl, sym, ap, ◌∙◌}
use Rattle.std.proofs.lemmas.Result.{err_from_is_err_and}
use lib.Dec.{T}
use lib.ListN.{length}
use lib.Ieee.{nan, binary32, fits}
use Rattle.lists.proofs.Entries.{at_each}
use Rattle.admit.proofs.Admitted.{ChainAdmitted, chain_admitted}
use Rattle.admit.proofs.Numbered.{not_zero}
use Rattle.chain.specs.Chain.{take_of, pitches_of, lists_of}
use Rattle.chain.proofs.Marking.{length_pitches, refused_left, read_left}
use Rattle.chain.proofs.chain.Goals as goal
use Rattle.chain.proofs.chain.Goals.{In_ok-chain_refusal}

pub returns-in_err-chain_refusal : goal.returns-in_err-chain_refusal
returns-in_err-chain_refusal c =
    let a = c.args in
    let p = err_from_is_err_and c.from_residual.result c.from_residual.ensures.1 in
    rw (p.1, p.2) (
    refused_left
    (take_of a.db.now a.pitch.now a.voiced.now a.sonority.now a.vowel.now a.samples.now a.p)
    (lists_of a.frames.now a.strengths.now a.xframes.now a.xstrengths.now a.edges.now a.bounds.now)
    _ c.in_err-chain_refusal.ensures (not_zero _) refl)

-- what admission gives
admitted : (c : In_ok-chain_refusal) → let a = c.args in ChainAdmitted a.db.now a.pitch.now a.voiced.now
    (length a.frames.now) (length a.strengths.now) (length a.xframes.now) (length a.xstrengths.now) (length a.edges.now) (length a.bounds.now)
admitted c =
    let a = c.args in
    let held = at_each (λ x. T (fits binary32 x)) a.pitch.now nan (λ i _. search rules) in
    chain_admitted a.db.now a.pitch.now a.voiced.now a.sonority.now a.vowel.now (length a.samples.now) a.p
    (length a.frames.now) (length a.strengths.now) (length a.xframes.now) (length a.xstrengths.now) (length a.edges.now)
    (length a.bounds.now) held (sym c.in_ok-chain_refusal.ensures)

pub mark_pitches-requires : goal.mark_pitches-requires
mark_pitches-requires c = let h = admitted (goal.at.mark_pitches-requires c).In_ok-chain_refusal in (h.size, h.pitches, h.repairs)

pub invariant_of-t : goal.invariant_of-t
unfolding pitches_of
invariant_of-t c =
    let a = c.args in
    let h = admitted (goal.at.invariant_of-t c).In_ok-chain_refusal in
    let n = ap length c.mark_pitches.ensures ∙ length_pitches
    (take_of a.db.now a.pitch.now a.voiced.now a.sonority.now a.vowel.now a.samples.now a.p) ∙ h.pitches in
    record { alike = (h.size, n, h.voices) }

pub mark_take-requires : goal.mark_take-requires
mark_take-requires c =
    let h = admitted (goal.at.mark_take-requires c).In_ok-chain_refusal in
    record { room = (h.frame_room, h.strength_room, h.xframe_room, h.xstrength_room, h.edge_room, h.bound_room) }

pub returns : goal.returns
unfolding pitches_of
returns c =
    let a = c.args in
    read_left
    (take_of a.db.now a.pitch.now a.voiced.now a.sonority.now a.vowel.now a.samples.now a.p)
    (lists_of a.frames.now a.strengths.now a.xframes.now a.xstrengths.now a.edges.now a.bounds.now)
    (sym c.in_ok-chain_refusal.ensures)
    c.mark_pitches.ensures c.mark_take.ensures
