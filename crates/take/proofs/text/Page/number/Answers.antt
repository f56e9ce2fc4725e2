-- `take::text::Page::number` meets its contract: the library writes the number's digits. Assumes nothing.
use native.Mathlib.Omega.{arith}
use mathlib.Core.Path.{◌≡◌, ◌∙◌}
use mathlib.Core.List.{[], ◌∷◌, append_assoc}
use lib.ListN.{length-append}
use Rattle.take.specs.Text.{decimal}
use Rattle.take.proofs.Numbers.{decimal_same}
use Rattle.take.proofs.text.Page.number.Goals as goal

pub text-requires : goal.text-requires
text-requires _ c =
    let e : c.as_bytes.result.now ≡ decimal c.args.n = c.as_bytes.ensures.value ∙ c.format.ensures.text ∙ decimal_same c.args.n (omega arith) in
    rw (c.byte.ensures, e) (simp length-append (omega (arith, c.requires)))

pub returns : goal.returns
returns _ c =
    let e : c.as_bytes.result.now ≡ decimal c.args.n = c.as_bytes.ensures.value ∙ c.format.ensures.text ∙ decimal_same c.args.n (omega arith) in
    rw (c.text.ensures, c.byte.ensures, e) (append_assoc c.args.self.now (32 ∷ []) (decimal c.args.n))
