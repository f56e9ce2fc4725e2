-- `nuclei::candidates` meets its contract: the parts are composed. Assumes nothing.
use native.Mathlib.Omega.{arith}
use Prim.Native.Nat.{◌≤◌}
use mathlib.Core.Path.{◌≡◌, ◌∙◌}
use lib.ListN.{length}
use Rattle.smooth.specs.declared.extrema.Extremum.TheVariants.{Max}
use Rattle.smooth.proofs.Stretches.{extrema_fit}
use Rattle.nuclei.specs.Peaks.{voiced_peaks}
use Rattle.nuclei.specs.Tops.{unheld}
use Rattle.nuclei.specs.Nuclei.{candidates}
use Rattle.nuclei.proofs.Whole.{peaks_few}
use Rattle.nuclei.proofs.candidates.Goals as goal
use Rattle.nuclei.proofs.candidates.Goals.{After-peaks_onto}

found : (g : _) (c : After-peaks_onto g) → c.peaks_onto.new.out.items ≡ voiced_peaks c.args.r.level.now c.args.pitch.now c.args.r.bounds c.args.runs.now
unfolding voiced_peaks
found g c = rw (c.clear.ensures, c.deref.ensures.0 ∙ c.local_extrema.ensures) at c.peaks_onto.ensures

few : (g : _) (c : After-peaks_onto g) → length c.peaks_onto.new.out.items ≤ length c.args.r.level.now
few g c = rw (found g c) (peaks_few c.args.r.level.now c.args.pitch.now c.args.r.bounds c.args.runs.now)

pub peaks_onto-requires : goal.peaks_onto-requires
peaks_onto-requires g c =
    let a = c.args in
    (omega arith, rw (c.clear.ensures, c.deref.ensures.0 ∙ c.local_extrema.ensures) (omega arith, omega (arith, extrema_fit a.r.level.now a.r.bounds.start a.r.bounds.end Max)))

pub runs_held-requires : goal.runs_held-requires
runs_held-requires g c = rw c.deref-2.ensures.0 (omega arith, (omega arith, omega (arith, few g (goal.at.runs_held-requires g c).After-peaks_onto)))

pub run_tops-requires : goal.run_tops-requires
run_tops-requires g c = (omega arith, (omega arith, omega arith, omega (arith, few g (goal.at.run_tops-requires g c).After-peaks_onto)))

pub returns : goal.returns
unfolding candidates unheld
returns g c = rw (c.deref-3.ensures.0 ∙ c.runs_held.ensures, c.deref-2.ensures.0, found g (goal.at.returns g c).After-peaks_onto) at c.run_tops.ensures
