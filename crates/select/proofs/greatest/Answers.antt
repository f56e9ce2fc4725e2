-- `select::greatest` meets its contract. Assumes nothing.
use mathlib.Core.Path.{◌≡◌, sym, ap, ◌∙◌}
use Prim.Native.Nat.{ℕ, max}
use Rattle.std.specs.List.{reduce}
use Rattle.std.specs.Prelude.{Option, unwrap_or}
use Rattle.std.proofs.lemmas.Iterator.Adapters.{option_map_id}
use Rattle.std.proofs.lemmas.Iterator.{YieldsList-from_slice}
use Rattle.std.proofs.lemmas.Iterator.Consumers.{YieldsList-from_copied, max_from_yields_List}
use Rattle.select.proofs.Walks.{greatest_reduced}
use Rattle.select.proofs.greatest.Goals as goal

pub returns : goal.returns
returns c =
    let e : c.max.result ≡ reduce max c.args.keys.now = sym (option_map_id _) ∙ max_from_yields_List c.copied.result _ c.max.ensures.ran (YieldsList-from_copied (YieldsList-from_slice c.args.keys.now cc)) in
    c.unwrap_or.ensures ∙ ap (λ (r : Option ℕ). unwrap_or r 0) e ∙ greatest_reduced c.args.keys.now
