-- `kiddwyr_extras`: what plain lists hold, as records, around the frames that are read. Assumes nothing.
use Rattle.kiddwyr.proofs.Wrapped.{laid_parts, extras_done}
use Rattle.kiddwyr.proofs.kiddwyr_extras.Goals as goal

pub fill_nuclei-requires : goal.fill_nuclei-requires
fill_nuclei-requires c = let e = rw (← c.from-counted.ensures) at c.extras_within.ensures in laid_parts e.1

pub returns : goal.returns
returns c =
    let a = c.args in
    let e = rw (← c.from-counted.ensures) at c.extras_within.ensures in
    extras_done a.nuclei.now c.frames_of-given.ensures a.db.now a.pitch.now a.sonority.now a.start a.end a.p (rw c.deref.ensures.0 at e) c.fill_nuclei.ensures
