-- Marks that tell the unpitched peaks, and which of two anchors stays. Assumes nothing.
use Prim.Native.Nat.{ℕ, ◌<◌, ◌≤◌}
use mathlib.Core.Path.{◌≡◌, refl, sym, ◌∙◌, fun_ext}
use mathlib.Core.Bool.{Bool, true, false, cond}
use mathlib.Core.List.{List}
use mathlib.Core.Logic.{◌⊎◌, inl, inr}
use native.Mathlib.Omega.{arith}
use lib.Dec.{leb}
use lib.ListN.{length, get_or-eq_default}
use lib.Ieee.{Float}
use borrow.Author.Tests.{leb-true, leb-false}
use Rattle.lists.specs.By.{Each}
use Rattle.lists.specs.Marks.{member, Marked}
use Rattle.lists.proofs.Tests.{not_holds}
use Rattle.lists.proofs.Members.{each_member}
use Rattle.nuclei.specs.Nuclei.{louder}
use Rattle.nuclei.proofs.Merge.{Picks}
use Rattle.nuclei.proofs.Choice.{louder_picks}
use Rattle.extra.specs.Merging.{mark_at, survivor}

-- ---- the marks of a list are its members
pub marked_is : (xs : List ℕ) (m : List Bool) → Marked xs m → length m ≡ 2048 → Each (λ x. x < 2048) xs → mark_at m ≡ member xs
marked_is xs m k l e = fun_ext (λ x. go x (leb 2048 x) refl)
  where
    go : (x : ℕ) (b : Bool) → leb 2048 x ≡ b → mark_at m x ≡ member xs x
    go x true q =
        let h : 2048 ≤ x = leb-true 2048 x q in
        get_or-eq_default m false (omega arith)
        ∙ sym (not_holds (member xs x) (λ p. absurd (omega (arith, each_member (λ z. z < 2048) xs x e p))))
    go x false q = k x (leb-false 2048 x q)

-- ---- one of two anchors stays
pub survivor_picks : (s : List Float) (peak : ℕ → Bool) → Picks (survivor s peak)
unfolding survivor
survivor_picks s peak a b = go (peak a) (peak b)
  where
    go : (c d : Bool) → (cond c (cond d (louder s a b) b) a ≡ a) ⊎ (cond c (cond d (louder s a b) b) a ≡ b)
    go true true = louder_picks s a b
    go true false = inr refl
    go false d = inl refl
