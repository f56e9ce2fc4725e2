-- `input::add_piece` meets its contract: what is kept is held. Assumes nothing.
use Prim.Native.Nat.{ℕ, ◌+◌}
use mathlib.Core.Path.{refl, subst, sym}
use mathlib.Core.List.{List, ◌++◌}
use lib.ListN.{length}
use borrow.Author.Rules.{rules}
use Rattle.input.specs.Held.{Holds}
use Rattle.input.proofs.Adding.{kept_holds}
use Rattle.input.proofs.add_piece.Goals as goal

pub returns : goal.returns
returns c =
    let a = c.args in
    record {
      count = search rules;
      holds = λ came h. subst (λ (s : List ℕ). Holds (came ++ a.piece.now) s (a.total + length a.piece.now)) (sym c.keep.ensures) (kept_holds came a.file.now a.piece.now a.total h _ refl);
    }
