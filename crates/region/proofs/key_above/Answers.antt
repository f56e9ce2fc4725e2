-- `region::key_above` meets its contract. Assumes nothing.
use Rattle.std.proofs.Common.{◌≡◌, ℕ, ◌+◌, ◌<◌, ◌≤◌, min, get_or, ap, ◌∙◌, arith}
use Rattle.lists.specs.Sorted.{sorted}
use Rattle.region.proofs.key_above.Goals as goal

more : (below last : ℕ) → below < last → below + 1 ≡ min (below + 1) last
more below last h = omega arith

same : (below last : ℕ) → below ≤ last → last ≤ below → below ≡ min (below + 1) last
same below last h k = omega arith

pub returns-then-below-last : goal.returns-then-below-last
returns-then-below-last c = c.next.ensures ∙ ap (λ (i : ℕ). get_or (sorted c.args.keys.now) i 0) (more c.args.below c.args.last c.if-below-last.true)

pub returns : goal.returns
returns c = c.requires.x_value ∙ ap (λ (i : ℕ). get_or (sorted c.args.keys.now) i 0) (same c.args.below c.args.last c.requires.below_le_last.0 c.if-below-last.false)
