-- `select::next` meets its contract. Assumes nothing.
use mathlib.Core.Path.{◌∙◌, subst}
use Prim.Native.Nat.{ℕ, ◌+◌, ◌≤◌, ◌<◌}
use native.Mathlib.Omega.{arith}
use Rattle.lists.proofs.Entries.{at_each}
use Rattle.select.proofs.Ranks.{next_same, next_over}
use Rattle.select.proofs.next.Goals as goal

pub returns-then-k-count : goal.returns-then-k-count
returns-then-k-count c = next_same c.args.keys.now c.args.k c.args.x c.requires.k_in_bounds c.requires.x_value (subst (λ (n : ℕ). c.args.k + 1 < n) c.count.ensures c.if-k-count.true)

pub returns : goal.returns
returns c =
    let few = subst (λ (n : ℕ). n ≤ c.args.k + 1) c.count.ensures c.if-k-count.false in
    c.least_over.ensures
    ∙ next_over c.args.keys.now c.args.k c.args.x c.requires.k_in_bounds c.requires.x_value
    (at_each (λ y. y ≤ 4294967295) c.args.keys.now 0 (λ i _. omega (arith, c.type_inv.keys i))) few
