-- `take::text::Page::bits` meets its contract: the library writes the digits. Assumes nothing.
use native.Mathlib.Omega.{arith}
use mathlib.Core.Path.{◌≡◌, ap, ap₂, ◌∙◌}
use mathlib.Core.List.{[], ◌∷◌, ◌++◌, append_assoc}
use lib.ListN.{length, length-append}
use lib.Ieee.{binary32, to_bits}
use Rattle.hex.specs.Hex.{encode_lower}
use Rattle.take.specs.Text.{hex}
use Rattle.take.proofs.Numbers.{hex_same, hex_small}
use Rattle.take.proofs.text.Page.bits.Goals as goal

pub text-requires : goal.text-requires
text-requires _ c =
    let d : c.encode_to_slice.new.output ≡ encode_lower c.to_be_bytes.result = rw c.unwrap.ensures at c.encode_to_slice.ensures.written in
    let e : c.encode_to_slice.new.output ≡ hex (to_bits binary32 c.args.x) = d ∙ ap encode_lower c.to_be_bytes.ensures ∙ hex_same c.to_bits.result ∙ ap hex c.to_bits.ensures in
    omega (arith, c.requires, ap length e, ap length c.byte.ensures, length-append c.args.self.now (32 ∷ []))

pub returns : goal.returns
returns _ c =
    let d : c.encode_to_slice.new.output ≡ encode_lower c.to_be_bytes.result = rw c.unwrap.ensures at c.encode_to_slice.ensures.written in
    let e : c.encode_to_slice.new.output ≡ hex (to_bits binary32 c.args.x) = d ∙ ap encode_lower c.to_be_bytes.ensures ∙ hex_same c.to_bits.result ∙ ap hex c.to_bits.ensures in
    c.text.ensures ∙ ap₂ ◌++◌ c.byte.ensures (grind (arith, e, hex_small 8 (to_bits binary32 c.args.x))) ∙ append_assoc c.args.self.now (32 ∷ []) (hex (to_bits binary32 c.args.x))
