-- `kiddwyr_chain`: what plain lists hold after the chain, as records. Assumes nothing.
use Rattle.chain.specs.Chain.{take_of}
use Rattle.kiddwyr.specs.Records.{lists_of}
use Rattle.kiddwyr.proofs.Wrapped.{laid_parts}
use Rattle.kiddwyr.proofs.Chained.{recorded}
use Rattle.kiddwyr.proofs.kiddwyr_chain.Goals as goal

pub fill_nuclei-requires : goal.fill_nuclei-requires
fill_nuclei-requires c = let e = rw (← c.from-marks.ensures) at c.chain_within.ensures in laid_parts {f = c.chain_within.new.frames} {s = c.chain_within.new.strengths} e.2

pub fill_nuclei-requires-2 : goal.fill_nuclei-requires-2
fill_nuclei-requires-2 c = let e = rw (← c.from-marks.ensures) at c.chain_within.ensures in laid_parts {f = c.chain_within.new.xframes} {s = c.chain_within.new.xstrengths} e.3

pub returns : goal.returns
returns c =
    let a = c.args in
    let e = rw (← c.from-marks.ensures) at c.chain_within.ensures in
    let t = take_of a.db.now a.pitch.now a.voiced.now a.sonority.now a.vowel.now a.samples.now a.p in
    recorded t (lists_of a.nuclei.now a.extras.now a.edges.now a.bounds.now) e c.fill_nuclei.ensures c.fill_nuclei-2.ensures
