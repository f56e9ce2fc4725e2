-- What a read brought, for what is held, and for the bytes that a reader has left where they are known. Assumes nothing.
use Prim.Native.Nat.{ℕ, zero, suc, ◌+◌, ◌<◌}
use native.Mathlib.Omega.{arith}
use mathlib.Core.Path.{◌≡◌, refl, sym, ap, ◌∙◌}
use mathlib.Core.List.{List, [], ◌∷◌, ◌++◌, append_assoc, append-nil}
use lib.ListN.{length, take}
use lib.Seq.{take_all, take-append-le}
use Rattle.std.specs.Prelude.{Result, Ok, Err, Option, Some, None, IfSome}
use Rattle.std.specs.Io.KnownBytes.{Consumes, ReadConsumes, IsAtEnd}
use Rattle.input.specs.Held.{Holds, Adds, Added, pieces_joined}
use Rattle.input.specs.Reading.{Brought}
use Rattle.input.proofs.Adding.{pieces_held}

-- ---- the bytes that are left
-- those of one read and then those of the next
consumed_more : (o m n : Option (List ℕ)) (a b : List ℕ) → Consumes o m a → Consumes m n b → Consumes o n (a ++ b)
consumed_more None m n a b h k = tt
consumed_more (Some xs) None n a b h k = absurd h
consumed_more (Some xs) (Some ys) None a b h k = absurd k
consumed_more (Some xs) (Some ys) (Some zs) a b h k = rw (h, k) (sym (append_assoc a b zs))

pub none_consumed : (o : Option (List ℕ)) → Consumes o o []
none_consumed None = tt
none_consumed (Some xs) = refl

joined_more : (pieces : List (List ℕ)) (piece : List ℕ) → pieces_joined (pieces ++ (piece ∷ [])) ≡ pieces_joined pieces ++ piece
unfolding pieces_joined
joined_more [] piece = append-nil piece
joined_more (p ∷ pieces) piece = rw (joined_more pieces piece) (rw append_assoc)

pub piece_consumed : (o m n : Option (List ℕ)) (pieces : List (List ℕ)) (piece : List ℕ) → Consumes o m (pieces_joined pieces) → Consumes m n piece → Consumes o n (pieces_joined (pieces ++ (piece ∷ [])))
piece_consumed o m n pieces piece h k = rw (joined_more pieces piece) (consumed_more o m n (pieces_joined pieces) piece h k)

-- the pieces of an input that is known
module _ {pieces : List (List ℕ)} {file left : List ℕ} {total : ℕ} (a : Added pieces file 0 left total) where
  pub whole_known : (o m n : Option (List ℕ)) → Consumes o m (pieces_joined pieces) → Consumes m n [] → IsAtEnd n → IfSome o (λ came. Holds came left total)
  whole_known None m n h k e = tt
  whole_known (Some xs) None n h k e = absurd h
  whole_known (Some xs) (Some ys) None h k e = absurd k
  whole_known (Some xs) (Some ys) (Some zs) h k e =
      let f : xs ≡ pieces_joined pieces = h ∙ ap (λ (s : List ℕ). pieces_joined pieces ++ s) (k ∙ e) ∙ append-nil (pieces_joined pieces) in
      rw f (pieces_held a)

  pub longer_known : {most : ℕ} → most < total → (o m : Option (List ℕ)) → Consumes o m (pieces_joined pieces) → IfSome o (λ came. Holds (take total came) left total × (most < total))
  longer_known l None m h = tt
  longer_known l (Some xs) None h = absurd h
  longer_known l (Some xs) (Some ys) h =
      let p = pieces_held a in
      let e : take total xs ≡ pieces_joined pieces = ap (take total) h ∙ take-append-le total (pieces_joined pieces) ys (omega (arith, p.count)) ∙ take_all total (pieces_joined pieces) (omega (arith, p.count)) in
      (rw e p, l)

-- ---- one read
module _ {E : Type 0} (chunk file left : List ℕ) (total : ℕ) (m n : Option (List ℕ)) where
  pub same_left : (got : Result ℕ E) → Brought got chunk file total left (Ok None) → ReadConsumes m n got chunk → 0 < length chunk → (left ≡ file) × Consumes m n [] × IsAtEnd n
  same_left (Ok zero) b r l = (b.1, r.0, r.1 refl l)
  same_left (Ok (suc k)) b r l = cc b.0
  same_left (Err e) b r l = cc b

  pub more_left : (got : Result ℕ E) {more : ℕ} → Brought got chunk file total left (Ok (Some more)) → ReadConsumes m n got chunk → (total < more) × ((piece : List ℕ) × Adds piece file total left more × Consumes m n piece)
  more_left (Ok zero) b r = cc b.0
  more_left (Ok (suc k)) {more} b r =
      let s : more ≡ total + suc k = cc b.0 in
      (omega arith, (take (suc k) chunk, rw s b.1, r.0))
  more_left (Err e) b r = cc b
