-- The track as it is settled stretch by stretch. Assumes nothing.
use Prim.Native.Nat.{ℕ, ◌-◌, ◌≤◌, ◌<◌}
use native.Mathlib.Omega.{arith}
use native.Mathlib.Nat.{eq-zero-or-pos}
use mathlib.Core.Path.{◌≡◌, refl, sym, ap₂, ◌∙◌, subst}
use mathlib.Core.Bool.{Bool, true, false, cond}
use mathlib.Core.List.{List, map}
use mathlib.Core.Logic.{⊎_elim}
use lib.ListN.{length, get_or, length-map, get_or-map}
use lib.Seq.{ext_get_or}
use lib.Ieee.{Float, nan}
use Rattle.floats.specs.Plain.{zero_f}
use Rattle.lists.specs.Frames.{at, tabulate}
use Rattle.lists.specs.Results.{replaced}
use Rattle.lists.proofs.Parts.{get_d_any}
use Rattle.lists.proofs.Replaced.{length_replaced, replaced_before, replaced_inside, replaced_after}
use Rattle.lists.proofs.Tabulated.{length_tabulate, tabulate_at}
use Rattle.std.specs.Prelude.{Option, None}
use Rattle.recover.specs.Recovered.{starts, end_of, island, stored, recovered_at, recovered_from}
use Rattle.recover.proofs.Walking.{end_above, end_within, end_starts, inside_at}

-- ---- the track, settled before frame s, where a stretch starts, and from there on as given
pub record Settled (given : List Float) (es : List (Option Float)) (out : List Float) (s : ℕ) : Type 0 where
  pub size : length out ≡ length given
  pub done : (k : ℕ) → k < s → at out k ≡ recovered_at given es k
  pub left : (k : ℕ) → s ≤ k → at out k ≡ at given k
  pub first : starts es s ≡ true
  pub within : s ≤ length es

module _ (given : List Float) (es : List (Option Float)) (long : length es ≡ length given) {out : List Float} {s : ℕ} (h : s < length es) (r : Settled given es out s) where
  stored_at : (k : ℕ) → k < length es → at (map stored es) k ≡ stored (get_or es k None)
  stored_at k l = get_d_any (map stored es) k nan (stored None) (rw (length-map es stored) l) ∙ get_or-map stored es k None

  -- the next stretch is settled, by whether it is recovered
  settled_turn : {new : List Float} (b : Bool) → island given s (end_of es s) ≡ b → length new ≡ length out
      → ((k : ℕ) → k < s → at new k ≡ at out k)
      → ((k : ℕ) → s ≤ k → k < end_of es s → at new k ≡ cond b (at (map stored es) k) (at given k))
      → ((k : ℕ) → end_of es s ≤ k → at new k ≡ at out k)
      → Settled given es new (end_of es s)
  settled_turn {new} b q size before here after =
      let to : end_of es s ≤ length es = end_within es s h in
      record {
        size = size ∙ r.size;
        done = λ k l.
            ⊎_elim (λ z. here k (omega arith) l ∙ ap₂ (cond b) (stored_at k (omega arith)) (get_d_any given k nan zero_f (omega arith)) ∙ sym (inside_at es s r.first given b q k (omega arith) l))
            (λ z. before k (omega arith) ∙ r.done k (omega arith)) (eq-zero-or-pos (s - k));
        left = λ k l. after k l ∙ r.left k (omega (arith, end_above es s));
        first = end_starts es s;
        within = end_within es s h;
      }

  module _ (e : ℕ) (end : e ≡ end_of es s) where
    pub settled_stored : {new : List Float} → island given s e ≡ true → new ≡ replaced s e (map stored es) out → Settled given es new e
    settled_stored {new} =
        subst (λ (k : ℕ). island given s k ≡ true → new ≡ replaced s k (map stored es) out → Settled given es new k) (sym end)
        (λ q w.
        let to = end_of es s in
        let order : s ≤ to = omega (arith, end_above es s) in
        let few : to ≤ length es = end_within es s h in
        let from : to ≤ length (map stored es) = rw (length-map es stored) few in
        let room : to ≤ length out = omega (arith, r.size) in
        rw w (settled_turn true q (length_replaced (map stored es) out s to order from room) (λ k l. replaced_before (map stored es) out s to order from room k nan l)
        (λ k l m. replaced_inside (map stored es) out s to order from room k nan l m) (λ k l. replaced_after (map stored es) out s to order from room k nan l)))

    pub settled_kept : island given s e ≡ false → Settled given es out e
    settled_kept =
        subst (λ (k : ℕ). island given s k ≡ false → Settled given es out k) (sym end)
        (λ q. settled_turn false q refl (λ k l. refl) (λ k l l'. r.left k l) (λ k l. refl))

-- a stretch ends after its first frame, and within the track
pub end_bounds : (es : List (Option Float)) (s e : ℕ) → s < length es → e ≡ end_of es s → (s < e) × (e ≤ length es)
end_bounds es s e h q = (omega (arith, end_above es s), omega (arith, end_within es s h))

pub settled_end : {given out : List Float} {es : List (Option Float)} {s : ℕ} → length es ≡ length given → length es ≤ s → Settled given es out s → out ≡ recovered_from given es
unfolding recovered_from
settled_end {given} {out} {es} {s} long over r =
    let n = length given in
    let f = recovered_at given es in
    ext_get_or nan out (tabulate f n) (r.size ∙ sym (length_tabulate f n))
    (λ k l. r.done k (omega (arith, r.size)) ∙ sym (tabulate_at f n k nan (omega (arith, r.size))))
