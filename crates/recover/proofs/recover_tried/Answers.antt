-- `recover_tried` meets its contract: the two steps one after the other, the first from the first frame that is tried on. Assumes nothing.
use borrow.Rule.Slice.PartMut.{put_mid}
use Rattle.std.proofs.Common.{◌≡◌, ◌-◌, length, take, ◌∙◌, arith}
use Rattle.std.proofs.Math.ListN.{replicate}
use Rattle.std.proofs.lemmas.List.{length-replicate, get_or-replicate}
use lib.Seq.{get_or-take, length-take-le}
use Rattle.std.specs.Prelude.{None}
use Rattle.nsdf.specs.Period.{period_hz}
use Rattle.nsdf.proofs.Range.{period_range}
use Rattle.recover.specs.Estimates.{estimates}
use Rattle.recover.specs.Recovered.{recovered_by}
use Rattle.recover.proofs.Trying.{estimates_range, all_written}
use Rattle.recover.proofs.recover_tried.Goals as goal
use Rattle.recover.proofs.recover_tried.Goals.{After-estimates}

written : (c : After-estimates) → put_mid c.args.first (length (take (length c.args.pitch.now) (replicate 2048 c.of-found.result)) - c.args.first) (take (length c.args.pitch.now) (replicate 2048 c.of-found.result)) c.estimates.new.out
    ≡ estimates (period_hz c.args.samples.now) c.args.pitch.now c.args.speech.now c.args.vowel.now
written c =
    let a = c.args in
    let n = length a.pitch.now in
    let table = replicate 2048 c.of-found.result in
    all_written (period_hz a.samples.now) a.pitch.now a.speech.now a.vowel.now a.first c.requires.first_within c.requires.untried (take n table)
    (length-take-le n table (omega (arith, length-replicate 2048 c.of-found.result)))
    (λ i h. get_or-take n table i None (omega arith) ∙ get_or-replicate 2048 i c.of-found.result None (omega arith) ∙ c.of-found.ensures)
    c.estimates.new.out (rw c.copy_from_slice.ensures.after at c.estimates.ensures)

pub recover_stretches-requires-clause-each : goal.recover_stretches-requires-clause-each
recover_stretches-requires-clause-each c = rw (written (goal.at.recover_stretches-requires-clause-each c).After-estimates) (estimates_range (period_hz c.args.samples.now) _ _ _ (period_range c.args.samples.now))

pub returns : goal.returns
unfolding recovered_by
returns c = rw (c.recover_stretches.ensures, written (goal.at.returns c).After-estimates, c.copy_from_slice.ensures.after)
