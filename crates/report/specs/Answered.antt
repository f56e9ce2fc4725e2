-- What the code's record of a call of the chain says. Definitions only.
use Rattle.chain.specs.Chain.{Lists, Left, lists_of, marks_for}
use Rattle.report.specs.declared.answered.Answered.{Answered}

-- the lists that it left
abbrev pub lists_in : Answered → Lists
lists_in c = lists_of c.frames.now c.strengths.now c.xframes.now c.xstrengths.now c.edges.now c.bounds.now

-- all that it answered and left
abbrev pub left_in : Answered → Left
left_in c = record { answer = marks_for c.answer; pitch = c.pitch.now; lists = lists_in c }
