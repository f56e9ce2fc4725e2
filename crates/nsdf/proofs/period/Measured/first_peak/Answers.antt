-- `Measured::first_peak` meets its contract: what the library answers of the numbers from 1 to 198. Assumes nothing.
use Rattle.std.proofs.Common.{◌≡◌, rules, tests, true, false}
use Rattle.std.proofs.lemmas.Iterator.{first_from_Range}
use Rattle.nsdf.specs.Period.{is_near, first_peak}
use Rattle.nsdf.proofs.Peaks.{first_of}
use Rattle.nsdf.proofs.period.Measured.first_peak.Goals as goal

pub returns : goal.returns
unfolding first_peak
returns c =
    let t = is_near c.args.self.at.now c.args.least in
    first_of t c.find.result 1 198
    (first_from_Range _ _ _ _ (λ k. t k ≡ true) (λ k. t k ≡ false) c.find.ensures.ran (λ x q k. search (rules, tests)) (λ x q k. search (rules, tests)))
