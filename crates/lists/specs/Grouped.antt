-- Neighbours of a list made one where they go together. Definitions only.
use Rattle.std.specs.Prelude.{◌≡◌, Bool, true, false, cond, List, [], ◌∷◌, ◌++◌}

module _ {A : Type 0} (together : A → A → Bool) (join : A → A → A) where
  -- x in front of what is grouped already: one with the first of it where the two go together, else by itself
  unfoldable pub attach : A → List A → List A
  attach x [] = x ∷ []
  attach x (y ∷ ys) = cond (together x y) (join x y ∷ ys) (x ∷ y ∷ ys)

  -- the entries in order, neighbours that go together made one
  unfoldable pub grouped : List A → List A
  grouped [] = []
  grouped (x ∷ xs) = attach x (grouped xs)

  -- y is a part of the list made one, in which neighbours go together
  pub data Union : List A → A → Type 0 where
    one : {x : A} → Union (x ∷ []) x
    more : {x y : A} {xs : List A} → together x y ≡ true → Union xs y → Union (x ∷ xs) (join x y)

  -- x does not go together with what comes next
  abbrev pub Parted : A → List A → Type 0
  Parted x [] = Unit
  Parted x (y ∷ ys) = together x y ≡ false

  -- a list falls into parts, one after the other; each is made one, and no two neighbours of these go together
  pub data Unions : List A → List A → Type 0 where
    none : Unions [] []
    next : {xs rest : List A} {y : A} {ys : List A} → Union xs y → Parted y ys → Unions rest ys → Unions (xs ++ rest) (y ∷ ys)
