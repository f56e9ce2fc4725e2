-- `within::nuclei_within` meets its contract. Assumes nothing.
use native.Mathlib.Omega.{arith}
use mathlib.Core.Path.{◌∙◌}
use Rattle.within.proofs.Rooms.{cut_long, cut_room, nuclei_room, nuclei_room_found, part_laid}
use Rattle.within.proofs.nuclei_within.Goals as goal

pub slice_bounds-nuclei-end-2 : goal.slice_bounds-nuclei-end-2
slice_bounds-nuclei-end-2 c = cut_long c.min-k.result c.args.frames.now _ c.min-k.ensures c.requires.0

pub slice_bounds-nuclei-end-4 : goal.slice_bounds-nuclei-end-4
slice_bounds-nuclei-end-4 c = cut_long c.min-k.result c.args.strengths.now _ c.min-k.ensures c.requires.1

pub returns : goal.returns
returns c =
    let a = c.args in
    let least = c.min-k.ensures in
    let f = cut_room c.min-k.result a.frames.now a.room least c.requires.0 in
    let s = cut_room c.min-k.result a.strengths.now a.room least c.requires.1 in
    let said = c.nuclei.ensures in (
      said.0 ∙ nuclei_room _ _ _ _ _ _ _ a.room f s,
      part_laid {k = c.min-k.result} (nuclei_room_found _ _ _ _ _ _ _ a.room f s) (omega (arith, least)) (omega (arith, c.nuclei.auto.frames, f, least)) _ _ said.1 said.2,
    )
