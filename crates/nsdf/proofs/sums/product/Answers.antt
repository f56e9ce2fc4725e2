-- `product` meets its contract. Assumes nothing.
use Rattle.std.proofs.Common.{◌≡◌, rules, ◌*ℤ◌, w16, w64, to_z, of_z}
use Rattle.nsdf.proofs.Whole.{abs_product}
use Rattle.nsdf.proofs.sums.product.Goals as goal

pub returns-clause-result_bound : goal.returns-clause-result_bound
returns-clause-result_bound c =
    let a = c.args.a in
    let b = c.args.b in
    let e : to_z w64 (of_z w64 (to_z w64 (of_z w64 (to_z w16 (of_z w16 a))) *ℤ to_z w64 (of_z w64 (to_z w16 (of_z w16 b))))) ≡ a *ℤ b = search rules in
    rw e (abs_product a b c.ranges.a c.ranges.b)
