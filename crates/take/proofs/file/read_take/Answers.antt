-- `take::file::read_take` meets its contract: the tracks and the settings are the parts of the take. Assumes nothing.
use lib.ListN.{length}
use Rattle.take.proofs.Records.{whole_take}
use Rattle.take.proofs.file.read_take.Goals as goal

pub returns : goal.returns
returns c =
    let a = c.args in
    let n = c.requires.db_len in
    whole_take a.file.now (length a.db.now) (length a.pitch.now) (length a.voiced.now) (length a.sonority.now)
    (length a.vowel.now) c.read_settings.ensures c.read_track.ensures
    c.read_track-2.ensures c.read_track-3.ensures
    c.read_track-4.ensures c.read_marks.ensures n.0 n.1 n.2 n.3 n.4
