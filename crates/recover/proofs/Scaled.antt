-- Estimators that agree recover the same track; so samples that are all multiplied by one whole number other than 0 do. Assumes nothing.
use Prim.Native.Nat.{ℕ}
use mathlib.Core.Path.{◌≡◌, ap, fun_ext}
use mathlib.Core.List.{List, map}
use lib.IntN.{ℤ, pos, ◌*ℤ◌}
use lib.Ieee.{Float}
use Rattle.std.specs.Prelude.{Option}
use Rattle.nsdf.proofs.Scaling.{period_scaled}
use Rattle.recover.specs.Recovered.{recovered_by, recovered}

pub recovered_same : (f g : ℕ → Option Float) → ((k : ℕ) → f k ≡ g k) → (p : List Float) (s v : List ℕ) → recovered_by f p s v ≡ recovered_by g p s v
recovered_same f g h p s v = ap (λ (e : ℕ → Option Float). recovered_by e p s v) (fun_ext h)

pub recovered_scaled : (k : ℤ) → (k ≡ pos 0 → ⊥) → (p : List Float) (x : List ℤ) (s v : List ℕ) → recovered p (map (λ (z : ℤ). k *ℤ z) x) s v ≡ recovered p x s v
recovered_scaled k nonzero p x s v = recovered_same _ _ (period_scaled k nonzero x) p s v
