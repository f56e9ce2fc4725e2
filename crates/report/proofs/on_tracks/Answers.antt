-- `report::on_tracks` meets its contract: the tracks are the take's, and its pitches are read alike both times. Assumes nothing.
use native.Mathlib.Omega.{arith}
use Rattle.report.proofs.Parts.{pitches_same}
use Rattle.report.proofs.on_tracks.Goals as goal

pub with_lists-requires : goal.with_lists-requires
with_lists-requires c = record { given_value = (pitches_same c.args.file.now c.requires.db_len.5 c.read_track.ensures c.read_take-p.ensures, omega (arith, c.requires)) }
