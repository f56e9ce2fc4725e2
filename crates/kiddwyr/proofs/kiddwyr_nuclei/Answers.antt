-- `kiddwyr_nuclei`: what two plain lists hold, as records. Assumes nothing.
use Rattle.kiddwyr.proofs.Wrapped.{laid_parts, laid_listed}
use Rattle.kiddwyr.proofs.kiddwyr_nuclei.Goals as goal

pub fill_nuclei-requires : goal.fill_nuclei-requires
fill_nuclei-requires c = let e = rw (← c.from-answer.ensures) at c.nuclei_within.ensures in laid_parts e.1

pub returns : goal.returns
returns c =
    let e = rw (← c.from-answer.ensures) at c.nuclei_within.ensures in
    (e.0, laid_listed e.1 c.fill_nuclei.ensures)
