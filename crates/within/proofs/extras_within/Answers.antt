-- `within::extras_within` meets its contract. Assumes nothing.
use native.Mathlib.Omega.{arith}
use mathlib.Core.Path.{◌∙◌}
use Rattle.lists.proofs.Fill.{relisted}
use Rattle.within.proofs.Rooms.{cut_long, cut_room, extras_room, extras_room_found, edges_room_found, part_laid}
use Rattle.within.proofs.extras_within.Goals as goal

pub slice_bounds-extras-end-2 : goal.slice_bounds-extras-end-2
slice_bounds-extras-end-2 c = cut_long c.min-k.result c.args.frames.now _ c.min-k.ensures c.requires.0

pub slice_bounds-extras-end-4 : goal.slice_bounds-extras-end-4
slice_bounds-extras-end-4 c = cut_long c.min-k.result c.args.strengths.now _ c.min-k.ensures c.requires.1

pub returns : goal.returns
returns c =
    let a = c.args in
    let least = c.min-k.ensures in
    let f = cut_room c.min-k.result a.frames.now a.room least c.requires.0 in
    let s = cut_room c.min-k.result a.strengths.now a.room least c.requires.1 in
    let said = c.extras.ensures in (
      said.0 ∙ extras_room _ _ _ _ _ _ _ _ _ a.room _ f s,
      part_laid {k = c.min-k.result} (extras_room_found _ _ _ _ _ _ _ _ _ a.room _ f s) (omega (arith, least)) (omega (arith, c.extras.auto.frames, f, least)) _ _ said.1 said.2,
      relisted (edges_room_found _ _ _ _ _ _ _ _ _ a.room _ f s) said.3,
    )
