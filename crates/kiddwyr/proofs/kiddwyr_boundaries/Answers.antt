-- `kiddwyr_boundaries`: the boundaries under the defaults, around the frames that are read. Assumes nothing.
use Rattle.kiddwyr.proofs.Wrapped.{bounds_done}
use Rattle.kiddwyr.proofs.kiddwyr_boundaries.Goals as goal

pub returns : goal.returns
returns c =
    let a = c.args in
    let e = rw (← c.from.ensures, c.deref.ensures.0) at c.boundaries.ensures in
    bounds_done a.nuclei.now c.frames_of-given.ensures a.db.now a.pitch.now a.voiced.now a.start a.end e
