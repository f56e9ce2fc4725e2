-- `boundaries::edges::mark_frames` meets its contract: the part from a on and before b is filled. Assumes nothing.
use Prim.Native.Nat.{ℕ, ◌≤◌}
use mathlib.Core.Path.{ap, ◌∙◌}
use mathlib.Core.Bool.{true}
use lib.ListN.{length, replicate}
use Rattle.boundaries.proofs.Spreading.{part_length, spread_part}
use Rattle.boundaries.proofs.edges.mark_frames.Goals as goal

pub returns : goal.returns
returns c =
    let h : c.args.b ≤ length c.args.marks.now = rw c.told-marks c.requires.1 in
    spread_part _ _ _ c.requires.0 h (c.fill.ensures.after (λ y e. e) ∙ ap (λ (n : ℕ). replicate n true) (part_length _ _ _ c.requires.0 h))
