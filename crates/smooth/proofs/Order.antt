-- `beyond`, above for a maximum and below for a minimum, is a strict order too. Assumes nothing.
use mathlib.Core.Path.{◌≡◌, refl, sym, ◌∙◌}
use mathlib.Core.Bool.{Bool, true, false, true≢false}
use lib.Ieee.{Float, lt, is_nan}
use Rattle.floats.proofs.Less.{lt_trans, lt_from, lt_itself, lt_left, lt_right}
use Rattle.smooth.specs.declared.extrema.Extremum.{Extremum}
use Rattle.smooth.specs.declared.extrema.Extremum.TheVariants.{Max, Min}
use Rattle.smooth.specs.Extrema.{beyond}

pub beyond_trans : (kind : Extremum) (x y z : Float) → beyond kind x y ≡ true → beyond kind y z ≡ true → beyond kind x z ≡ true
beyond_trans Max x y z p q = lt_trans z y x q p
beyond_trans Min x y z p q = lt_trans x y z p q

pub beyond_from : (kind : Extremum) (x y z : Float) → is_nan y ≡ false → beyond kind x y ≡ false → beyond kind x z ≡ true → beyond kind y z ≡ true
beyond_from Max x y z h p q = go (lt z y) refl
  where
    go : (b : Bool) → lt z y ≡ b → lt z y ≡ true
    go true e = e
    go false e = absurd (true≢false (sym (lt_from z y x h e q) ∙ p))
beyond_from Min x y z h p q = lt_from x y z h p q

pub beyond_itself : (kind : Extremum) (x : Float) → beyond kind x x ≡ false
beyond_itself Max x = lt_itself x
beyond_itself Min x = lt_itself x

pub beyond_number : (kind : Extremum) (x y : Float) → beyond kind x y ≡ true → is_nan x ≡ false
beyond_number Max x y p = lt_right y x p
beyond_number Min x y p = lt_left x y p
