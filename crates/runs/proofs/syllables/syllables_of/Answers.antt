-- `runs::syllables::syllables_of` meets its contract: the syllable runs come one after the other, by `Joining`. Assumes nothing.
use native.Mathlib.Omega.{arith}
use Prim.Native.Nat.{ℕ}
use mathlib.Core.Path.{◌≡◌, refl, sym, ap, ◌∙◌}
use mathlib.Core.Bool.{Bool}
use mathlib.Core.List.{List, [], ◌∷◌}
use lib.Ieee.{Float}
use lib.ListN.{length, drop_of_length-le}
use Rattle.lists.specs.Grouped.{grouped}
use Rattle.lists.proofs.Fill.{drop_step}
use Rattle.runs.specs.declared.voiced.Span.{Span}
use Rattle.runs.specs.Syllables.{breaks_from, syllables_of}
use Rattle.runs.proofs.Syllabic.{joining_start, joining_on, joining_room, joining_cut, joining_end, joining_end_room}
use Rattle.runs.proofs.syllables.syllables_of.Goals as goal
use Rattle.runs.proofs.syllables.syllables_of.Goals.{then-breaks_from, else-breaks_from}

pub returns-in_default : goal.returns-in_default
unfolding syllables_of grouped
returns-in_default g c = c.new-syllables.ensures ∙ none c.args.runs.now c.in_default.ensures.cases
  where
    none : (rs : List Span) → length rs ≡ 0 → [] ≡ syllables_of c.args.pitch.now rs
    none [] e = refl
    none (r ∷ rs) e = absurd (omega arith)

pub loop-run-init : goal.loop-run-init
loop-run-init g c = rw (c.new-syllables.ensures, c.in-Some.ensures.cases.0) (joining_start _ _ _ (rw c.in-Some.ensures.cases.0 at c.requires.0))

-- the pitch is asked from the last frame of the runs so far
asked : (pitch : List Float) (last from first : ℕ) (r t : Bool) → from ≡ last → r ≡ breaks_from pitch from first → r ≡ t → breaks_from pitch last first ≡ t
asked pitch last from first r t e q h = sym (q ∙ ap (λ (k : ℕ). breaks_from pitch k first) e) ∙ h

pub push-requires : goal.push-requires
push-requires g c =
    let next = drop_step c.in-Some.rest.now c.loop-run.run-index (record { first = 0; last = 0 }) c.loop-run-test.true in
    (omega arith, omega (arith, joining_room _ _ next c.loop-run.invariant (asked _ _ _ _ _ _ (omega arith) c.breaks_from.ensures c.if-breaks_from.true)))

pub loop-run-preserved : goal.loop-run-preserved
loop-run-preserved g c =
    let next = drop_step c.in-Some.rest.now c.loop-run.run-index (record { first = 0; last = 0 }) c.loop-run-test.true in
    elim c.if-breaks_from.branch [
      | then-breaks_from w ↦ rw (w.syllables-is, w.group-is, w.push.ensures.items) (joining_cut _ _ next c.loop-run.invariant (asked _ _ _ _ _ _ (omega arith) c.breaks_from.ensures w.if-breaks_from.true))
      | else-breaks_from w ↦ rw (w.syllables-is, w.group-is) (joining_on _ _ next c.loop-run.invariant (asked _ _ _ _ _ _ (omega arith) c.breaks_from.ensures w.if-breaks_from.false))
    ]

pub push-requires-2 : goal.push-requires-2
push-requires-2 g c = (omega arith, omega (arith, joining_end_room _ (drop_of_length-le c.in-Some.rest.now c.loop-run-test.false) c.loop-run.invariant))

pub returns : goal.returns
returns g c = c.push-2.ensures.items ∙ joining_end _ (drop_of_length-le c.in-Some.rest.now c.loop-run-test.false) c.loop-run.invariant
