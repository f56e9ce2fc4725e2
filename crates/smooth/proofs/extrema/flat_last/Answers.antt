-- `smooth::extrema::flat_last` meets its contract: the first frame after which the value changes, or else the last one. Assumes nothing.
use Prim.Native.Nat.{◌-◌}
use native.Mathlib.Omega.{arith}
use mathlib.Core.Path.{◌≡◌, sym, ap, ◌∙◌}
use Rattle.std.proofs.Common.{rules}
use Rattle.std.specs.Prelude.{unwrap_or, Option, ℕ}
use Rattle.lists.proofs.Walks.{first_is}
use Rattle.lists.proofs.Firsts.{first_or}
use Rattle.smooth.specs.Extrema.{changes_after, flat_last}
use Rattle.smooth.proofs.extrema.flat_last.Goals as goal

pub returns : goal.returns
returns c =
    let a = c.args in
    let t = changes_after a.s.now in
    let found = c.first_from.ensures t (λ k low high r q. search rules) in
    let same : c.unwrap_or.result ≡ flat_last a.s.now a.i (a.b - a.i) = c.unwrap_or.ensures ∙ ap (λ (o : Option ℕ). unwrap_or o a.b) found ∙ sym (first_or t a.i a.b c.requires.0) in
    let f = first_is t a.i (a.b - a.i) in
    (same, (omega (arith, same, f.low), omega (arith, same, f.high, c.requires.0)))
