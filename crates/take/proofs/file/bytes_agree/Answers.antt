-- `take::file::bytes_agree` meets its contract: each way answers what its tests say. Assumes nothing.
use Prim.Native.Nat.{ℕ, ◌+◌, ◌*◌}
use mathlib.Core.Path.{sym, ap, ◌∙◌}
use lib.Dec.{eqb}
use Rattle.take.proofs.Agreement.{no_head, no_version, no_length, then_size}
use Rattle.take.proofs.file.bytes_agree.Goals as goal

pub returns-then-head-lt7 : goal.returns-then-head-lt7
returns-then-head-lt7 c = sym (no_head _ _ c.if-head-lt7.true)

pub returns-then-head-ne1 : goal.returns-then-head-ne1
returns-then-head-ne1 c = sym (no_version _ _ c.if-head-lt7.false c.if-head-ne1.true)

pub returns-then-length-frames_in : goal.returns-then-length-frames_in
returns-then-length-frames_in c =
    sym
    (no_length _ _ c.if-head-lt7.false c.if-head-ne1.false
    (λ e. c.if-length-frames_in.true (c.word_at-length.ensures ∙ e ∙ ap (λ (n : ℕ). 15 + 17 * n) (sym c.frames_in.ensures.0))))

pub returns : goal.returns
returns c =
    ap (λ (n : ℕ). eqb c.args.size (4 + n)) c.word_at-length.ensures ∙ sym
    (then_size _ _ c.if-head-lt7.false c.if-head-ne1.false
    (sym c.word_at-length.ensures ∙ c.if-length-frames_in.false ∙ ap (λ (n : ℕ). 15 + 17 * n) c.frames_in.ensures.0))
