-- `estimates::estimates` meets its contract: the list is filled frame by frame. Assumes nothing.
use Rattle.std.proofs.Common.{◌∙◌, arith}
use Rattle.nsdf.specs.Period.{period_hz}
use Rattle.nsdf.proofs.Range.{period_range}
use Rattle.recover.proofs.Trying.{estimate_range, trying_start, trying_more, trying_end}
use Rattle.recover.proofs.estimates.estimates.Goals as goal

pub loop-i-init : goal.loop-i-init
loop-i-init c =
    let a = c.args in
    trying_start (period_hz a.samples.now) a.track.pitch.now a.track.speech.now a.track.vowel.now c.requires.out_len

pub of-requires : goal.of-requires
of-requires c =
    let a = c.args in
    rw c.estimate_at.ensures (estimate_range (period_hz a.samples.now) a.track.pitch.now a.track.speech.now a.track.vowel.now (period_range a.samples.now) _)

pub loop-i-preserved : goal.loop-i-preserved
loop-i-preserved c =
    let a = c.args in
    trying_more (period_hz a.samples.now) a.track.pitch.now a.track.speech.now a.track.vowel.now c.requires.out_len c.of.result c.loop-i-test.true (c.of.ensures ∙ c.estimate_at.ensures) (omega arith) c.loop-i.invariant

pub returns : goal.returns
returns c =
    let a = c.args in
    trying_end (period_hz a.samples.now) a.track.pitch.now a.track.speech.now a.track.vowel.now c.requires.out_len c.loop-i-test.false c.loop-i.invariant
