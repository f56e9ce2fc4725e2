-- `region::speech_count` meets its contract. Assumes nothing.
use native.Mathlib.Nat.{zero-add}
use mathlib.Core.Path.{◌∙◌}
use lib.Ieee.{nan}
use Rattle.std.proofs.Common.{rules}
use Rattle.lists.proofs.Counting.{count_kept}
use Rattle.region.specs.Speech.{speech, speech_at}
use Rattle.region.proofs.speech_count.Goals as goal

pub returns : goal.returns
returns c =
    let db = c.args.db.now in
    let t = c.args.threshold in
    c.count_if.ensures (speech t) (λ k d h b e. search rules) ∙ count_kept (speech t) (speech_at t db) nan db 0 (λ k l. rw zero-add)
