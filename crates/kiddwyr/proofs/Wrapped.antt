-- What an entry over records promises, from what its functions over plain lists do: the frames that it reads, its scratch lists, and what it fills. Assumes nothing.
use Prim.Native.Nat.{ℕ, suc, ◌≤◌}
use native.Mathlib.Omega.{arith}
use mathlib.Core.Path.{◌≡◌, refl, sym, ap, ap₂, ◌∙◌}
use mathlib.Core.List.{List, [], ◌∷◌}
use lib.ListN.{length, take, length-take}
use lib.Ieee.{Float}
use Rattle.lists.specs.Results.{overlay, Listed}
use Rattle.lists.proofs.Fill.{relisted}
use Rattle.region.specs.declared.Settings.{Settings}
use Rattle.nuclei.specs.Nuclei as found
use Rattle.nuclei.specs.Nuclei.{frames_of, strengths_of}
use Rattle.entries.specs.Stages.{BoundariesCall, BoundariesWithCall}
use Rattle.region.specs.Defaults.{defaults}
use Rattle.admit.specs.Refusals.{boundaries_refusal}
use Rattle.entries.specs.declared.stages.Answer.{Answer}
use Rattle.entries.specs.declared.stages.Counted.{Counted}
use Rattle.within.specs.Within.{Laid, ExtrasWithin}
use Rattle.kiddwyr.specs.declared.Nucleus.{Nucleus}
use Rattle.kiddwyr.specs.Records.{record_of, records_of, frames_in, ExtrasCall}
use Rattle.kiddwyr.specs.Copied.{paired, Filled}
use Rattle.kiddwyr.proofs.Given.{extras_given, extras_given_found, edges_given_found, with_given, with_given_found}

-- what is laid can be copied
pub laid_parts : {ns : List found.Nucleus} {f : List ℕ} {s : List Float} {room r : ℕ} → Laid ns f s room r → (length (take r s) ≡ length (take r f)) × (length (take r f) ≤ room)
laid_parts {f = f} {s} {r = r} l = (omega (arith, length-take r f, length-take r s, l.framed.within, l.strong.within), omega (arith, length-take r f, l.framed.within, l.fits))

-- and is the records
long_frames : (ns : List found.Nucleus) → length (frames_of ns) ≡ length (records_of ns)
long_frames [] = refl
long_frames (n ∷ ns) = ap suc (long_frames ns)

pair_up : (ns : List found.Nucleus) → paired (frames_of ns) (strengths_of ns) ≡ records_of ns
pair_up [] = refl
pair_up (n ∷ ns) = ap (λ (t : List Nucleus). record_of n ∷ t) (pair_up ns)

pub laid_listed : {ns : List found.Nucleus} {f : List ℕ} {s : List Float} {room r : ℕ} {old new : List Nucleus} → Laid ns f s room r → Filled (take r f) (take r s) old new → Listed (records_of ns) old new r
laid_listed {ns} {f} {s} {room} {r} {old} l e =
    record {
      count = sym (length-take r f ∙ omega (arith, l.framed.within)) ∙ ap length l.framed.entries ∙ long_frames ns;
      entries = e ∙ ap (λ (t : List Nucleus). overlay t old) (ap₂ paired l.framed.entries l.strong.entries ∙ pair_up ns);
    }

-- ---- around the frames of nuclei: `given` holds the first of them
module _ (nuclei : List Nucleus) {given : List ℕ} (first : given ≡ take 2049 (frames_in nuclei)) where
  pub extras_done : (db pitch sonority : List Float) (start end : ℕ) (p : Settings) {f : List ℕ} {s : List Float} {old new : List Nucleus} {old_edges new_edges : List ℕ} {r : Counted}
      → ExtrasWithin db pitch sonority start end given p (length old) f s old_edges new_edges r → Filled (take r.extras f) (take r.extras s) old new → ExtrasCall db pitch sonority start end (frames_in nuclei) p old new old_edges new_edges r
  extras_done db pitch sonority start end p {old = old} {old_edges = old_edges} e filled =
      let n = length old in
      let k = length old_edges in (
        e.0 ∙ extras_given db pitch sonority start end p n n k (frames_in nuclei) first,
        relisted (ap records_of (extras_given_found db pitch sonority start end p n n k (frames_in nuclei) first)) (laid_listed e.1 filled),
        relisted (edges_given_found db pitch sonority start end p n n k (frames_in nuclei) first) e.2,
      )

  pub with_done : (db pitch voiced : List Float) (start end : ℕ) (p : Settings) {old new : List ℕ} {r : Answer}
      → BoundariesWithCall db pitch voiced start end given p old new r → BoundariesWithCall db pitch voiced start end (frames_in nuclei) p old new r
  with_done db pitch voiced start end p {old = old} e =
      (e.0 ∙ with_given db pitch voiced start end p (length old) (frames_in nuclei) first, relisted (with_given_found db pitch voiced start end p (length old) (frames_in nuclei) first) e.1)

  pub bounds_done : (db pitch voiced : List Float) (start end : ℕ) {old new : List ℕ} {r : Answer}
      → BoundariesCall db pitch voiced start end given old new r → BoundariesCall db pitch voiced start end (frames_in nuclei) old new r
  unfolding boundaries_refusal
  bounds_done db pitch voiced start end e = with_done db pitch voiced start end defaults e
