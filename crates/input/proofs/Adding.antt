-- A piece that is kept as far as there is room is held after what came before it; so pieces, one after the other, leave their input held, however it is cut. Assumes nothing.
use Prim.Native.Nat.{ℕ, ◌+◌, ◌-◌, ◌≤◌, min}
use native.Mathlib.Omega.{arith}
use native.Mathlib.Nat.{le_refl}
use mathlib.Core.Path.{◌≡◌, refl, sym, ap, subst, ◌∙◌}
use mathlib.Core.Bool.{Bool, true, false}
use mathlib.Core.List.{List, [], ◌∷◌, ◌++◌, append_assoc, append-nil}
use lib.Dec.{leb}
use lib.ListN.{length, take, length-append}
use lib.Seq.{paste, paste-zero, length-paste, take-paste, take_all, take-nil, take-length, take-append-le, take-append-add}
use borrow.Author.Tests.{leb-true, leb-false}
use Rattle.input.specs.Held.{Holds, Adds, Added, none, one, pieces_joined}

module _ (came file piece : List ℕ) (total : ℕ) (h : Holds came file total) where
  counted : total + length piece ≡ length (came ++ piece)
  counted = omega (arith, h.count, length-append came piece)

  -- the bytes that came so far, where they all fit
  all_kept : total ≤ length file → take total file ≡ came
  all_kept l = h.bytes ∙ take_all (length file) came (omega (arith, h.count))

  -- a piece that fits
  whole : total + length piece ≤ length file → Holds (came ++ piece) (paste file total piece (length piece)) (total + length piece)
  whole l =
      let fits : length (came ++ piece) ≤ length (paste file total piece (length piece)) = omega (arith, counted, length-paste file total piece (length piece) l (le_refl (length piece))) in
      record {
        count = counted;
        bytes =
            take-paste file total piece (length piece) (omega arith) (le_refl (length piece))
            ∙ (rw (all_kept (omega arith), take-length piece))
            ∙ sym (take_all (length (paste file total piece (length piece))) (came ++ piece) fits);
      }

  -- one that is cut
  cut : (n : ℕ) → total + n ≡ length file → n ≤ length piece → Holds (came ++ piece) (paste file total piece n) (total + length piece)
  cut n e l =
      let p : length (paste file total piece n) ≡ length file = length-paste file total piece n (omega arith) l in
      let q : length came + n ≡ length (paste file total piece n) = omega (arith, h.count) in
      record {
        count = counted;
        bytes =
            take_all (total + length piece) (paste file total piece n) (omega arith)
            ∙ sym (take_all (total + n) (paste file total piece n) (omega arith))
            ∙ take-paste file total piece n (omega arith) l
            ∙ ap (λ (s : List ℕ). s ++ take n piece) (all_kept (omega arith))
            ∙ sym (take-append-add came piece n)
            ∙ ap (λ (k : ℕ). take k (came ++ piece)) q;
      }

  -- one for which there is no room left
  past : length file ≤ total → Holds (came ++ piece) file (total + length piece)
  past l =
      record {
        count = counted;
        bytes =
            take_all (total + length piece) file (omega arith)
            ∙ sym (take_all total file l)
            ∙ h.bytes
            ∙ sym (take-append-le (length file) came piece (omega (arith, h.count)));
      }

  pub kept_holds : (n : ℕ) → n ≡ min (length piece) (length file - total) → Holds (came ++ piece) (paste file total piece n) (total + length piece)
  kept_holds n e = go (leb (total + length piece) (length file)) refl (leb (length file) total) refl
    where
      go : (b : Bool) → leb (total + length piece) (length file) ≡ b → (d : Bool) → leb (length file) total ≡ d → Holds (came ++ piece) (paste file total piece n) (total + length piece)
      go true p d q = let f : n ≡ length piece = omega (arith, leb-true (total + length piece) (length file) p) in rw f (whole (leb-true (total + length piece) (length file) p))
      go false p true q =
          let z : n ≡ 0 = omega (arith, leb-true (length file) total q) in
          rw z (subst (λ (s : List ℕ). Holds (came ++ piece) s (total + length piece)) (paste-zero file total piece) (past (leb-true (length file) total q)))
      go false p false q = cut n (omega (arith, leb-false (total + length piece) (length file) p, leb-false (length file) total q)) (omega arith)

-- one piece more
pub one_more : {piece : List ℕ} {pieces : List (List ℕ)} {file mid left : List ℕ} {total more counted : ℕ} → Added pieces file total mid more → Adds piece mid more left counted → Added (pieces ++ (piece ∷ [])) file total left counted
one_more none a = one a none
one_more (one a r) b = one a (one_more r b)

after : {pieces : List (List ℕ)} {file left : List ℕ} {total counted : ℕ} → Added pieces file total left counted → (came : List ℕ) → Holds came file total → Holds (came ++ pieces_joined pieces) left counted
unfolding pieces_joined
after none came h = rw append-nil h
after (one {piece} {pieces} a r) came h = rw (← append_assoc) (after r (came ++ piece) (a.holds came h))

-- from the first piece on
pub pieces_held : {pieces : List (List ℕ)} {file left : List ℕ} {total : ℕ} → Added pieces file 0 left total → Holds (pieces_joined pieces) left total
pieces_held {pieces} {file} a = after a [] (record { count = refl; bytes = sym (take-nil (length file)) })
