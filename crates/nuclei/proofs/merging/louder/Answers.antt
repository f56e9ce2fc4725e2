-- `nuclei::merging::louder` meets its contract. Assumes nothing.
use lib.Ieee.{le}
use Rattle.nuclei.specs.Nuclei.{louder}
use Rattle.nuclei.proofs.merging.louder.Goals as goal

pub returns-then-s-x : goal.returns-then-s-x
unfolding louder le
returns-then-s-x c = rw c.if-s-x.true

pub returns-else-s-x : goal.returns-else-s-x
unfolding louder
returns-else-s-x c = rw c.if-s-x.false
