-- By what admission answers: a refused call may leave every list as it was with counts of 0, and an admitted one leaves what its stage does. Assumes nothing.
use Prim.Native.Nat.{ℕ, zero, suc}
use mathlib.Core.Path.{◌≡◌, refl, sym, ap, ◌∙◌, subst}
use mathlib.Core.List.{List, []}
use Rattle.lists.specs.Results.{Listed, overlay}
use Rattle.entries.specs.Stages.{if_admitted}

module _ {A : Type 0} (found instead : A) where
  pub admitted_is : {number : ℕ} → 0 ≡ number → found ≡ if_admitted number found instead
  unfolding if_admitted
  admitted_is e = ap (λ (k : ℕ). if_admitted k found instead) e

  pub refused_is : {r number : ℕ} → r ≡ number → (r ≡ 0 → ⊥) → instead ≡ if_admitted number found instead
  unfolding if_admitted
  refused_is {r} {number} e n = go number e
    where
      go : (k : ℕ) → r ≡ k → instead ≡ if_admitted k found instead
      go zero e = absurd (n e)
      go (suc k) e = refl

-- lists that are read off what a call finds
module _ {A B : Type 0} (f : List A → List B) (l : List A) {number : ℕ} {old : List B} where
  pub lists : {new : List B} {k : ℕ} → 0 ≡ number → Listed (f l) old new k → Listed (f (if_admitted number l [])) old new k
  lists {new} {k} e h = subst (λ (l : List A). Listed (f l) old new k) (admitted_is l [] e) h

  pub leaves : {r : ℕ} → r ≡ number → f [] ≡ [] → (r ≡ 0 → ⊥) → Listed (f (if_admitted number l [])) old old 0
  unfolding overlay
  leaves e none n = subst (λ (k : List B). Listed k old old 0) (sym none ∙ ap f (refused_is l [] e n)) (record { count = refl; entries = refl })

-- the number and one list
module _ {A : Type 0} (l : List A) {number : ℕ} {old : List A} where
  pub finds : {new : List A} {k : ℕ} → 0 ≡ number → Listed l old new k → (0 ≡ number) × Listed (if_admitted number l []) old new k
  finds e h = (e, lists (λ (l : List A). l) l e h)

  pub refuses : {r : ℕ} → r ≡ number → (r ≡ 0 → ⊥) → (r ≡ number) × Listed (if_admitted number l []) old old 0
  refuses e n = (e, leaves (λ (l : List A). l) l e refl n)
