-- `take::text::Page::text` meets its contract. The loop's invariant: the page and the bytes that are left make up the whole. Assumes nothing.
use Prim.Native.Nat.{ℕ, ◌+◌, ◌<◌}
use native.Mathlib.Numerals.{add-one}
use native.Mathlib.Omega.{arith}
use mathlib.Core.Path.{◌≡◌, refl}
use mathlib.Core.List.{List, [], ◌∷◌, ◌++◌}
use lib.ListN.{length, get_or, drop, drop_of_length-le}
use lib.Seq.{drop-cons}
use Rattle.take.proofs.Writing.{write_next, write_room, write_end}
use Rattle.take.proofs.text.Page.text.Goals as goal

next : (text : List ℕ) (i : ℕ) → i < length text → drop i text ≡ (get_or text i 0 ∷ []) ++ drop (i + 1) text
next text i h = rw (add-one i) (drop-cons text i 0 h)

pub loop-b-init : goal.loop-b-init
loop-b-init g c = refl

pub byte-requires : goal.byte-requires
byte-requires g c =
    let l = c.loop-b in
    let t = c.args.text.now in
    omega (arith, write_room l.self (get_or t l.b-index 0 ∷ []) (drop (l.b-index + 1) t) c.args.self.now t g.row.N l.invariant (next t l.b-index c.loop-b-test.true) c.requires)

pub loop-b-preserved : goal.loop-b-preserved
loop-b-preserved g c =
    let l = c.loop-b in
    let t = c.args.text.now in
    write_next l.self (get_or t l.b-index 0 ∷ []) (drop (l.b-index + 1) t) l.invariant (next t l.b-index c.loop-b-test.true) c.byte.ensures

pub returns : goal.returns
returns g c = write_end c.loop-b.self c.loop-b.invariant (drop_of_length-le c.args.text.now c.loop-b-test.false)
