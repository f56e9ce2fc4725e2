-- `values::pitch_admitted` meets its contract. Assumes nothing.
use Rattle.admit.specs.Values.{pitch_admitted}
use Rattle.admit.proofs.values.pitch_admitted.Goals as goal

pub returns : goal.returns
unfolding pitch_admitted
returns c = rw (c.within.ensures, c.to_bits.ensures)
