-- `extra::seconds::one_held` meets its contract: the first two of the frames tell. Assumes nothing.
use Rattle.std.proofs.Common.{arith, rules}
use Rattle.extra.proofs.Holding.{held_two, held_first, held_none}
use Rattle.extra.proofs.seconds.one_held.Goals as goal

pub returns-in-len2-up : goal.returns-in-len2-up
returns-in-len2-up c = held_two _ _ _ c.requires.2 c.requires.3 c.in-len2-up.len_at_least c.if-second-end.true

pub returns-in-len1-up : goal.returns-in-len1-up
returns-in-len1-up c =
    held_first _ _ _ c.requires.2 c.requires.3 (search rules) c.if-first-end.true (λ l. search rules)

pub returns-in_default : goal.returns-in_default
returns-in_default c = held_none _ _ _ c.requires.2 (λ l. absurd (omega (arith, c.in_default.len_below)))

pub returns-in_default-2 : goal.returns-in_default-2
returns-in_default-2 c = held_none _ _ _ c.requires.2 (λ l. c.if-first-end.false)
