-- `take::text::Page::text` meets its contract. The loop's invariant: the page and the bytes that are left make up the whole. Assumes nothing.
use Rattle.std.proofs.Common.{◌≡◌, ◌++◌, drop}
use Rattle.take.proofs.text.Page.text.Given as goal

abbrev pub invariant-loop-b : goal.invariant-loop-b
invariant-loop-b g l = l.self ++ drop l.b-index l.text ≡ l.initial.self ++ l.text
