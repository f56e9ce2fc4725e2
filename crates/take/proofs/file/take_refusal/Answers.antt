-- `take::file::take_refusal` meets its contract: each way answers what its tests say. Assumes nothing.
use Prim.Native.Nat.{ℕ, ◌<◌}
use native.Mathlib.Nat.{le_of_eq, le_trans}
use mathlib.Core.Path.{sym, subst, ◌∙◌}
use Rattle.take.proofs.Agreement.{agreed_head, refused_bytes, refused_frames, refused_none}
use Rattle.take.proofs.file.take_refusal.Goals as goal

pub returns-then-not-bytes_agree : goal.returns-then-not-bytes_agree
returns-then-not-bytes_agree c = sym (refused_bytes _ _ (sym c.bytes_agree.ensures ∙ c.if-not-bytes_agree.true))

pub frames_in-requires : goal.frames_in-requires
frames_in-requires c = agreed_head _ _ (sym c.bytes_agree.ensures ∙ c.if-not-bytes_agree.false)

pub returns-then-frames_in-gt-MAX_FRAMES : goal.returns-then-frames_in-gt-MAX_FRAMES
returns-then-frames_in-gt-MAX_FRAMES c = sym (refused_frames _ _ (sym c.bytes_agree.ensures ∙ c.if-not-bytes_agree.false) (subst (λ (n : ℕ). 2048 < n) c.frames_in.ensures.0 c.if-frames_in-gt-MAX_FRAMES.true))

pub returns : goal.returns
returns c = sym (refused_none _ _ (sym c.bytes_agree.ensures ∙ c.if-not-bytes_agree.false) (le_trans (le_of_eq (sym c.frames_in.ensures.0)) c.if-frames_in-gt-MAX_FRAMES.false))
