-- `report::with_lists` meets its contract: the text of what the chain leaves on blank lists is that of the take. Assumes nothing.
use Prim.Native.Nat.{ℕ}
use mathlib.Core.Path.{◌∙◌, refl}
use mathlib.Core.List.{List, []}
use lib.Ieee.{Float}
use Rattle.region.specs.declared.Settings.{Settings}
use Rattle.chain.specs.Chain.{Take}
use Rattle.report.proofs.Parts.{parts_text}
use Rattle.report.proofs.with_lists.Goals as goal

abbrev given : List Float → List Float → List Float → List Float → List ℕ → Settings → Take
given db pitch voiced sonority vowel p = record { db = db; pitch = pitch; voiced = voiced; sonority = sonority; vowel = vowel; samples = []; settings = p }

pub returns : goal.returns
returns c =
    let a = c.args in
    let p = c.requires.given_value in
    let t = given a.db.now a.pitch.now a.voiced.now a.sonority.now a.vowel.now a.p in
    c.list_marks.ensures ∙ parts_text t p.1 _ _ _ _ _ _ refl refl refl refl refl refl p.0
