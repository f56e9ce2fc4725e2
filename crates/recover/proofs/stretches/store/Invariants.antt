-- `stretches::store` meets its contract: up to frame i the pitches are stored. Assumes nothing.
use mathlib.Core.List.{map}
use Rattle.lists.proofs.Replaced.{Writing}
use Rattle.recover.specs.Recovered.{stored}
use Rattle.recover.proofs.stretches.store.Given as goal

abbrev pub invariant-loop-i : goal.invariant-loop-i
invariant-loop-i l = Writing (map stored l.estimates) l.initial.pitch l.s l.e l.pitch l.i
