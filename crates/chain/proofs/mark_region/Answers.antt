-- `mark_region` meets its contract: extra candidates and boundaries are given the nuclei at the front of the list. Assumes nothing.
use Rattle.lists.proofs.Fill.{listed_fits, listed_count}
use Rattle.chain.proofs.Marking.{lent_rises, told}
use Rattle.chain.proofs.mark_region.Goals as goal

pub slice_bounds-extra_candidates-end : goal.slice_bounds-extra_candidates-end
slice_bounds-extra_candidates-end c = listed_fits c.nuclei-n.ensures.0

pub slice_bounds-extra_candidates-end-2 : goal.slice_bounds-extra_candidates-end-2
slice_bounds-extra_candidates-end-2 c = listed_count c.nuclei-n.ensures.0

pub extra_candidates-x-requires : goal.extra_candidates-x-requires
extra_candidates-x-requires c = (c.args.t.alike.0, c.args.t.alike.1, c.requires.inside.1, c.requires.room.2, c.requires.room.3, c.requires.room.4)

pub slice_bounds-boundaries_with-end : goal.slice_bounds-boundaries_with-end
slice_bounds-boundaries_with-end c = listed_fits c.nuclei-n.ensures.0

pub slice_bounds-boundaries_with-end-2 : goal.slice_bounds-boundaries_with-end-2
slice_bounds-boundaries_with-end-2 c = listed_count c.nuclei-n.ensures.0

pub boundaries_with-bs-requires : goal.boundaries_with-bs-requires
boundaries_with-bs-requires c =
    let f = c.nuclei-n.ensures.0 in
    record { start_le_end = (c.requires.inside.0, c.requires.inside.1, c.args.t.alike.0, c.args.t.alike.1, c.args.t.alike.2); strictly_rises = lent_rises c.args.t.db.now c.args.t.pitch.now c.args.t.voiced.now c.args.t.sonority.now c.args.p c.args.region.start c.args.region.end c.requires.inside.1 f; db_in_bounds = c.requires.room.5 }

pub returns : goal.returns
returns c =
    let n = c.nuclei-n.ensures in
    let x = c.extra_candidates-x.ensures in
    told c.args.t.db.now c.args.t.pitch.now c.args.t.voiced.now c.args.t.sonority.now c.args.p c.args.region.start c.args.region.end n.0 n.1 x.0 x.1 x.2 c.boundaries_with-bs.ensures
