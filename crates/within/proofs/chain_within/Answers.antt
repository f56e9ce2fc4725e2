-- `within::chain_within` meets its contract. Assumes nothing.
use Rattle.chain.specs.Chain.{take_of, lists_of}
use Rattle.within.proofs.Rooms.{cut_long}
use Rattle.within.proofs.Chained.{noted}
use Rattle.within.proofs.chain_within.Goals as goal

pub slice_bounds-chain-end-2 : goal.slice_bounds-chain-end-2
slice_bounds-chain-end-2 c = cut_long c.min-k.result c.args.frames.now _ c.min-k.ensures c.requires.0.0

pub slice_bounds-chain-end-4 : goal.slice_bounds-chain-end-4
slice_bounds-chain-end-4 c = cut_long c.min-k.result c.args.strengths.now _ c.min-k.ensures c.requires.0.1

pub slice_bounds-chain-end-6 : goal.slice_bounds-chain-end-6
slice_bounds-chain-end-6 c = cut_long c.min-x.result c.args.xframes.now _ c.min-x.ensures c.requires.1.0

pub slice_bounds-chain-end-8 : goal.slice_bounds-chain-end-8
slice_bounds-chain-end-8 c = cut_long c.min-x.result c.args.xstrengths.now _ c.min-x.ensures c.requires.1.1

pub returns : goal.returns
returns c =
    let a = c.args in
    let kept = c.chain.auto in
    noted (take_of a.db.now a.pitch.now a.voiced.now a.sonority.now a.vowel.now a.samples.now a.p)
    a.room a.xroom c.min-k.result c.min-x.result
    (lists_of a.frames.now a.strengths.now a.xframes.now a.xstrengths.now a.edges.now a.bounds.now)
    c.min-k.ensures c.min-x.ensures c.requires kept.frames kept.xframes c.chain.ensures
