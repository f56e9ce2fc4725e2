-- What is held of an input tells what is printed for all that came, and this is what is printed for the whole, also where no more is read past the longest file. Assumes nothing.
use Prim.Native.Nat.{ℕ, ◌≤◌, ◌<◌}
use native.Mathlib.Omega.{arith}
use mathlib.Core.Path.{◌≡◌, sym, ap, ◌∙◌}
use mathlib.Core.Logic.{◌⊎◌, ⊎_elim}
use mathlib.Core.List.{List, [], ◌++◌, append-nil}
use lib.ListN.{length, take, drop, get_or, length-append, get_or-append}
use lib.Seq.{take_all}
use Rattle.take.specs.Fields.{half_at}
use Rattle.take.specs.File.{frame_count, largest, refusal_by, file_refusal}
use Rattle.take.specs.Listing.{refused_listing}
use Rattle.take.proofs.Agreement.{refused_past, refused_longer, refusal_kept}
use Rattle.report.specs.Shown.{printed}
use Rattle.report.proofs.Parts.{refused_printed}
use Rattle.std.specs.Prelude.{Option, Some, None, IfSome}
use Rattle.std.proofs.lemmas.List.{take-append-drop}
use Rattle.input.specs.Held.{Holds, Added, pieces_joined}
use Rattle.input.proofs.Adding.{pieces_held}
use Rattle.marks.specs.Answer.{longest}

-- ---- the bytes that are held
-- the first of more than every take has
pub longer_told : {came file : List ℕ} {total : ℕ} → Holds came file total → largest ≤ length file → length file < total → refused_listing (refusal_by file total) ≡ printed came
longer_told {came} {file} {total} h l m =
    let first : file ≡ take (length file) came = sym (take_all total file (omega arith)) ∙ h.bytes in
    let same : refusal_by file total ≡ file_refusal came = ap (λ (s : List ℕ). refusal_by s total) first ∙ ap (refusal_by (take (length file) came)) h.count ∙ refusal_kept (length file) came (omega arith) in
    ap refused_listing same ∙ refused_printed came (refused_longer came (omega (arith, h.count)))

-- ---- bytes that are not read
module _ (came rest : List ℕ) (bytes : (i : ℕ) → get_or (came ++ rest) i 0 < 256) (past : longest < length came) where
  byte : (i : ℕ) → i < length came → get_or came i 0 < 256
  byte i h = rw (get_or-append came rest 0 i h) at (bytes i)

  -- a head of two bytes of frames
  few : frame_count came ≤ 65535
  unfolding half_at
  few = omega (arith, byte 5 (omega arith), byte 6 (omega arith))

  pub refused_so_far : printed came ≡ refused_listing 11
  refused_so_far = sym (refused_printed came (refused_longer came (omega arith))) ∙ ap refused_listing (refused_past came (length came) few past)

pub unread_alike : (came rest : List ℕ) → ((i : ℕ) → get_or (came ++ rest) i 0 < 256) → longest < length came → printed came ≡ printed (came ++ rest)
unread_alike came rest bytes past =
    refused_so_far came rest bytes past
    ∙ sym (refused_so_far (came ++ rest) [] (λ i. rw append-nil (bytes i)) (omega (arith, length-append came rest)))

-- ---- the whole input
pub pieces_told : {pieces : List (List ℕ)} {file left : List ℕ} {total : ℕ} → Added pieces file 0 left total → (rest : List ℕ) → ((i : ℕ) → get_or (pieces_joined pieces ++ rest) i 0 < 256) → (rest ≡ []) ⊎ (longest < total) → printed (pieces_joined pieces) ≡ printed (pieces_joined pieces ++ rest)
pieces_told {pieces} {total = total} a rest bytes s = ⊎_elim (λ e. ap printed (sym (ap (λ (r : List ℕ). pieces_joined pieces ++ r) e ∙ append-nil (pieces_joined pieces)))) (λ p. unread_alike (pieces_joined pieces) rest bytes (omega (arith, (pieces_held a).count))) s

-- ---- an input whose bytes are known
-- where it is not read to its end, what is held of it has its text
pub longer_answered : {file text : List ℕ} {total : ℕ} → ((came : List ℕ) → Holds came file total → text ≡ printed came) → (o : Option (List ℕ)) → IfSome o (λ came. Holds (take total came) file total × (longest < total)) → IfSome o (λ came. ((i : ℕ) → get_or came i 0 < 256) → text ≡ printed came)
longer_answered tells None h = tt
longer_answered {total = total} tells (Some came) h =
    let all : take total came ++ drop total came ≡ came = take-append-drop total came in
    λ bytes. tells (take total came) h.0
    ∙ unread_alike (take total came) (drop total came) (rw all bytes) (omega (arith, h.0.count, h.1))
    ∙ ap printed all
