-- `numbers::first_failed` meets its contract. The loop's invariant, by any numbers: the rows that are left say the same as the table. Assumes nothing.
use Rattle.std.proofs.Common.{◌≡◌, ℕ, drop}
use Rattle.admit.specs.First.{first_of}
use Rattle.admit.specs.Numbers.{numbers_by, tests_in}
use Rattle.admit.proofs.numbers.first_failed.Given as goal

abbrev pub invariant-loop-passed : goal.invariant-loop-passed
invariant-loop-passed g l = (number : _ → ℕ) → first_of (numbers_by number (drop l.passed-index l.table)) (tests_in (drop l.passed-index l.table)) ≡ first_of (numbers_by number l.table) (tests_in l.table)
