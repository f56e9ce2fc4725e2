-- `RunsAhead::next` meets its contract: the next run begins with the next voiced frame. Assumes nothing.
use Rattle.std.proofs.Common.{rules, length, sym, ap, ◌∙◌}
use Rattle.lists.proofs.Firsts.{first_some}
use Rattle.runs.specs.Runs.{voiced}
use Rattle.runs.proofs.Walking.{ahead_none, ahead_some}
use Rattle.runs.proofs.voiced.RunsAheadIterator.next.Goals as goal

pub returns-in_err-first-clause-steps : goal.returns-in_err-first-clause-steps
returns-in_err-first-clause-steps c =
    let none = ahead_none _ _ (sym c.next_voiced.ensures ∙ c.in_err-first.was) in
    rw c.from_residual.ensures (none, none)

pub run_from-run-requires : goal.run_from-run-requires
run_from-run-requires c =
    let s = c.args.self.now in
    let f = first_some (voiced s.pitch.now) s.at (length s.pitch.now) (sym c.next_voiced.ensures ∙ c.in_ok-first.was) in
    (s.short, f.high, f.here)

pub returns-clause-steps : goal.returns-clause-steps
returns-clause-steps c = ahead_some _ _ (sym c.next_voiced.ensures ∙ c.in_ok-first.was) ∙ c.run_from-run.ensures.0

pub returns-clause-goes : goal.returns-clause-goes
returns-clause-goes c =
    let shorter = ap length (ahead_some _ _ (sym c.next_voiced.ensures ∙ c.in_ok-first.was) ∙ c.run_from-run.ensures.0) in
    search rules
