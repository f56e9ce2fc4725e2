-- `boundaries::edges::Speech::fills` meets its contract: what the library answers of the frames. Assumes nothing.
use Rattle.std.proofs.Common.{rules, tests}
use Rattle.lists.proofs.Ranges.{all_in}
use Rattle.region.specs.Speech.{speech_at}
use Rattle.boundaries.proofs.edges.Speech.fills.Goals as goal

pub returns : goal.returns
returns c = all_in (speech_at c.args.self.threshold c.args.self.db.now) (λ x r q k. search (rules, tests)) c.all.result c.all.ensures.ran
