-- `select::least` meets its contract. Assumes nothing.
use mathlib.Core.Path.{◌≡◌, sym, ap, ◌∙◌}
use Prim.Native.Nat.{ℕ, ◌≤◌, min}
use native.Mathlib.Omega.{arith}
use Rattle.lists.proofs.Entries.{at_each}
use Rattle.std.specs.List.{reduce}
use Rattle.std.specs.Prelude.{Option, unwrap_or}
use Rattle.std.proofs.lemmas.Iterator.Adapters.{option_map_id}
use Rattle.std.proofs.lemmas.Iterator.{YieldsList-from_slice}
use Rattle.std.proofs.lemmas.Iterator.Consumers.{YieldsList-from_copied, min_from_yields_List}
use Rattle.select.proofs.Walks.{least_reduced}
use Rattle.select.proofs.least.Goals as goal

pub returns : goal.returns
returns c =
    let e : c.min.result ≡ reduce min c.args.keys.now = sym (option_map_id _) ∙ min_from_yields_List c.copied.result _ c.min.ensures.ran (YieldsList-from_copied (YieldsList-from_slice c.args.keys.now cc)) in
    c.unwrap_or.ensures ∙ ap (λ (r : Option ℕ). unwrap_or r 4294967295) e ∙ least_reduced c.args.keys.now (at_each (λ y. y ≤ 4294967295) c.args.keys.now 0 (λ i _. omega (arith, c.type_inv.keys i)))
