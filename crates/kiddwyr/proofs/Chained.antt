-- The chain over records, from what it does over the plain lists that stand for them. Assumes nothing.
use mathlib.Core.Path.{◌≡◌, refl, sym, ◌∙◌}
use mathlib.Core.List.{List}
use Prim.Native.Nat.{ℕ}
use lib.ListN.{length, take}
use lib.Ieee.{Float}
use Rattle.lists.specs.Results.{overlay}
use Rattle.chain.specs.Chain as plain
use Rattle.chain.specs.Chain.{Take, unmarked}
use Rattle.chain.specs.declared.Marks.{Marks}
use Rattle.chain.proofs.Demand3.{leaves_by}
use Rattle.within.specs.Within.{ChainWithin}
use Rattle.kiddwyr.specs.Records.{Lists, Left, lists_of, written, refusal_of, chain_of, ChainCall}
use Rattle.kiddwyr.specs.Copied.{Filled}
use Rattle.kiddwyr.specs.declared.Nucleus.{Nucleus}
use Rattle.kiddwyr.proofs.Wrapped.{laid_listed}

pub nothing_in_records : (pitch : List Float) (l : Lists) → written (unmarked pitch) l ≡ l
unfolding overlay
nothing_in_records pitch l = refl

left_same : {a a' : Marks} {p p' : List Float} {n n' x x' : List Nucleus} {e e' b b' : List ℕ} → a ≡ a' → p ≡ p' → n ≡ n' → x ≡ x' → e ≡ e' → b ≡ b' →
    ◌≡◌ {A = Left} (record { answer = a; pitch = p; lists = lists_of n x e b }) (record { answer = a'; pitch = p'; lists = lists_of n' x' e' b' })
left_same a p n x e b = cc

pub recorded : (t : Take) (l : Lists) {new : plain.Lists} {r : Marks} {pitch : List Float} {nuclei extras : List Nucleus}
    → ChainWithin t (length l.nuclei) (length l.extras) l.edges l.bounds new pitch r
    → Filled (take r.nuclei new.frames) (take r.nuclei new.strengths) l.nuclei nuclei → Filled (take r.extras new.xframes) (take r.extras new.xstrengths) l.extras extras
    → ChainCall t l (lists_of nuclei extras new.edges new.bounds) pitch r
unfolding chain_of
recorded t l w n x =
    left_same w.0 w.1 (laid_listed w.2 n).entries (laid_listed w.3 x).entries w.4 w.5 ∙ sym (leaves_by written l (λ pitch. nothing_in_records pitch l) t (refusal_of t l))
