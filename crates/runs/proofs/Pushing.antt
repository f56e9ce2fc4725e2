-- A list to which entries are pushed: what it holds, with what is left after it, is the whole. Assumes nothing.
use Prim.Native.Nat.{ℕ, ◌≤◌, ◌<◌}
use native.Mathlib.Omega.{arith}
use mathlib.Core.Path.{◌≡◌, ap, ◌∙◌}
use mathlib.Core.List.{List, [], ◌∷◌, ◌++◌, append_assoc}
use lib.ListN.{length, length-append}

module _ {A : Type 0} {whole : List A} (done : List A) (x : A) (rest : List A) (e : done ++ (x ∷ rest) ≡ whole) where
  -- there is room for the next entry
  pub push_room : (n : ℕ) → length whole ≤ n → length done < n
  push_room n h = omega (arith, h, simp length-append at (ap length e))

  pub push_on : (done ++ (x ∷ [])) ++ rest ≡ whole
  push_on = append_assoc done (x ∷ []) rest ∙ e
