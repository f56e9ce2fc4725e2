-- `extra::unpitched::vowel_like` meets its contract. Assumes nothing.
use lib.Ieee.{of_bits}
use Rattle.extra.specs.Unpitched.{vowel_like}
use Rattle.extra.proofs.unpitched.vowel_like.Goals as goal

pub returns : goal.returns
unfolding vowel_like of_bits
returns c = rw (c.mean.ensures, c.near_start.ensures, c.near_end.ensures)
