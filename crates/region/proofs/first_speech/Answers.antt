-- `region::first_speech` meets its contract. Assumes nothing.
use lib.ListN.{length}
use Rattle.std.proofs.Common.{rules}
use Rattle.region.specs.Speech.{speech_at}
use Rattle.region.proofs.Frames.{first_told}
use Rattle.region.proofs.first_speech.Goals as goal

pub returns : goal.returns
returns c =
    let t = speech_at c.args.threshold c.args.db.now in
    first_told t (length c.args.db.now) (c.first_from.ensures t (λ k a b r q. search rules))
