-- Grouping may begin at either end of a list (`attach_join`, `attach_cut`), and `grouped` cuts the list just where neighbours do not go together (`grouped_unions`).
-- Assumes nothing.
use mathlib.Core.Path.{◌≡◌, refl, ◌∙◌}
use mathlib.Core.Bool.{Bool, true, false, cond}
use mathlib.Core.List.{List, [], ◌∷◌, ◌++◌}
use Rattle.lists.specs.Grouped.{attach, grouped, Parted, Unions, one, more, none, next}

module _ {A : Type 0} (together : A → A → Bool) (join : A → A → A) where
  -- what goes together with a union is told by its ends
  pub record Joins : Type 0 where
    pub assoc : (x y z : A) → join (join x y) z ≡ join x (join y z)
    pub before : (x y z : A) → together (join x y) z ≡ together y z
    pub after : (x y z : A) → together x (join y z) ≡ together x y

  module _ (j : Joins) (x y : A) (ys : List A) where
    pub attach_join : together x y ≡ true → attach together join x (grouped together join (y ∷ ys)) ≡ attach together join (join x y) (grouped together join ys)
    unfolding attach grouped
    attach_join e = go (grouped together join ys)
      where
        go : (gs : List A) → attach together join x (attach together join y gs) ≡ attach together join (join x y) gs
        go [] = rw e
        go (z ∷ zs) = pick (together y z) refl
          where
            pick : (b : Bool) → together y z ≡ b → attach together join x (cond b (join y z ∷ zs) (y ∷ z ∷ zs)) ≡ cond (together (join x y) z) (join (join x y) z ∷ zs) (join x y ∷ z ∷ zs)
            pick true q = rw (j.after x y z, e, j.before x y z, q, j.assoc x y z)
            pick false q = rw (e, j.before x y z, q)

    pub attach_cut : together x y ≡ false → attach together join x (grouped together join (y ∷ ys)) ≡ x ∷ grouped together join (y ∷ ys)
    unfolding attach grouped
    attach_cut e = go (grouped together join ys)
      where
        go : (gs : List A) → attach together join x (attach together join y gs) ≡ x ∷ attach together join y gs
        go [] = rw e
        go (z ∷ zs) = pick (together y z)
          where
            pick : (b : Bool) → attach together join x (cond b (join y z ∷ zs) (y ∷ z ∷ zs)) ≡ x ∷ cond b (join y z ∷ zs) (y ∷ z ∷ zs)
            pick true = rw (j.after x y z, e)
            pick false = rw e

  module _ (j : Joins) where
    attach_unions : (x : A) (l gs : List A) → Unions together join l gs → Unions together join (x ∷ l) (attach together join x gs)
    unfolding attach
    attach_unions x _ _ none = next one tt none
    attach_unions x _ _ (next {xs} {rest} {y} {ys} u p us) = pick (together x y) refl
      where
        still : (ys : List A) → Parted together join y ys → Parted together join (join x y) ys
        still [] p = tt
        still (z ∷ zs) p = j.before x y z ∙ p

        pick : (b : Bool) → together x y ≡ b → Unions together join (x ∷ (xs ++ rest)) (cond b (join x y ∷ ys) (x ∷ y ∷ ys))
        pick true e = next (more e u) (still ys p) us
        pick false e = next one e (next u p us)

    pub grouped_unions : (l : List A) → Unions together join l (grouped together join l)
    unfolding grouped
    grouped_unions [] = none
    grouped_unions (x ∷ l) = attach_unions x l (grouped together join l) (grouped_unions l)
