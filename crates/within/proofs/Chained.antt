-- The chain over plain lists that stand for lists of records, by the refusal number of these. Assumes nothing.
use Prim.Native.Nat.{ℕ, min}
use native.Mathlib.Omega.{arith}
use mathlib.Core.Path.{◌≡◌, refl, sym, ap, ◌∙◌}
use mathlib.Core.List.{List, ◌++◌}
use lib.ListN.{length, take, drop, length-map}
use lib.Ieee.{Float}
use Rattle.chain.specs.Chain.{Take, Lists, Left, written, refusal_of, chain_of, ChainCall, reading_by, answer_by, refusal_for, leaves}
use Rattle.chain.specs.declared.Marks.{Marks}
use Rattle.chain.proofs.Demand3.{leaves_by, counts}
use Rattle.chain.proofs.Marking.{nothing_written}
use Rattle.within.specs.Within.{Scratch, ChainWithin}
use Rattle.within.proofs.Rooms.{cut_room, part_laid, chain_room}

-- ---- the plain chain by its refusal number
chain_is : (t : Take) (l : Lists) (n : ℕ) → refusal_of t l ≡ n → chain_of t l ≡ record { answer = answer_by t n; pitch = (reading_by t n).pitch; lists = written (reading_by t n) l }
unfolding chain_of
chain_is t l n e = ap (leaves written t l) e ∙ leaves_by written l (λ pitch. nothing_written pitch l) t n

-- ---- in plain lists
module _ (t : Take) (room xroom k x : ℕ) (old : Lists) (ek : k ≡ min room 2048) (ex : x ≡ min xroom 2048) where
  abbrev cut : Lists
  cut = record { frames = take k old.frames; strengths = take k old.strengths; xframes = take x old.xframes; xstrengths = take x old.xstrengths; edges = old.edges; bounds = old.bounds }

  pub noted : Scratch old.frames old.strengths × Scratch old.xframes old.xstrengths → {new : Lists} {pitch : List Float} {r : Marks}
      → length new.frames ≡ length cut.frames → length new.xframes ≡ length cut.xframes → ChainCall t cut new pitch r
      → ChainWithin t room xroom old.edges old.bounds
      (record { frames = new.frames ++ drop k old.frames; strengths = new.strengths ++ drop k old.strengths; xframes = new.xframes ++ drop x old.xframes; xstrengths = new.xstrengths ++ drop x old.xstrengths; edges = new.edges; bounds = new.bounds })
      pitch r
  noted long {new} {pitch} {r} lf lx e =
      let number : ℕ = refusal_for t room room xroom xroom (length old.edges) (length old.bounds) in
      let af = cut_room k old.frames room ek long.0.0 in
      let cs = cut_room k old.strengths room ek long.0.1 in
      let bf = cut_room x old.xframes xroom ex long.1.0 in
      let bs = cut_room x old.xstrengths xroom ex long.1.1 in
      let g = e ∙ chain_is t cut number (chain_room t.db t.pitch t.voiced t.sonority t.vowel (length t.samples) t.settings _ _ room _ _ xroom (length old.edges) (length old.bounds) af cs bf bs) in
      let answer : r ≡ answer_by t number = ap (λ (o : Left). o.answer) g in
      let m = reading_by t number in
      let n : r.nuclei ≡ length m.nuclei = ap (λ (a : Marks). a.nuclei) answer ∙ (counts t number).0 in
      let y : r.extras ≡ length m.extras = ap (λ (a : Marks). a.extras) answer ∙ (counts t number).1 in (
        answer,
        ap (λ (o : Left). o.pitch) g,
        part_laid {k = k} refl (omega (arith, ek)) (omega (arith, lf, af, ek)) _ _
            (record { count = n ∙ sym (length-map m.nuclei _); entries = ap (λ (o : Left). o.lists.frames) g })
            (record { count = n ∙ sym (length-map m.nuclei _); entries = ap (λ (o : Left). o.lists.strengths) g }),
        part_laid {k = x} refl (omega (arith, ex)) (omega (arith, lx, bf, ex)) _ _
            (record { count = y ∙ sym (length-map m.extras _); entries = ap (λ (o : Left). o.lists.xframes) g })
            (record { count = y ∙ sym (length-map m.extras _); entries = ap (λ (o : Left). o.lists.xstrengths) g }),
        ap (λ (o : Left). o.lists.edges) g,
        ap (λ (o : Left). o.lists.bounds) g,
      )
