-- `nuclei::merging::push_merging` meets its contract; the measure is the count of the kept frames. Assumes nothing.
use lib.ListN.{length}
use Rattle.nuclei.proofs.merging.+push_merging.Given as goal

abbrev pub decreases-push_merging : goal.decreases-push_merging
decreases-push_merging g l = length l.kept.now.items
