-- `region::floor_db` meets its contract. Assumes nothing.
use Rattle.std.proofs.Common.{◌≡◌, ℕ, T, Some, List, map, length, take, sym, ap, ◌∙◌, arith}
use lib.ListN.{length-map}
use lib.Ieee.{nan, binary32, fits}
use lib.Ieee.Scale.{finite}
use Rattle.floats.specs.Total.{finite_key, value_of}
use Rattle.lists.specs.Sorted.{sorted}
use Rattle.lists.proofs.Entries.{at_each}
use Rattle.lists.proofs.Fill.{listed_take, filter_le}
use Rattle.lists.proofs.Keys.{Held}
use Rattle.region.specs.Percentile.{tenth_of}
use Rattle.region.proofs.Quiet.{finite_many, no_floor, floor_is}
use Rattle.region.proofs.floor_db.Goals as goal
use Rattle.region.proofs.floor_db.Goals.{After-finite_keys}

-- the keys are those of the dB, of which each is an f32
taken : (c : After-finite_keys) → let db = c.args.db.now in take (length db) c.finite_keys.new.keys ≡ map finite_key db
taken c = listed_take (record { count = sym (length-map c.args.db.now finite_key); entries = c.finite_keys.ensures })

many : (c : After-finite_keys) → let db = c.args.db.now in length (take (length db) c.finite_keys.new.keys) ≡ length db
many c = ap length (taken c) ∙ length-map c.args.db.now finite_key

held : (c : After-finite_keys) → Held c.args.db.now
held c = at_each (λ x. T (fits binary32 x)) c.args.db.now nan (λ i _. c.type_inv.db i)

pub slice_bounds-count-end : goal.slice_bounds-count-end
slice_bounds-count-end c = sym (many (goal.at.slice_bounds-count-end c).After-finite_keys)

pub count-n-requires : goal.count-n-requires
count-n-requires c = omega (arith, many (goal.at.count-n-requires c).After-finite_keys)

pub returns-then-n-eq0 : goal.returns-then-n-eq0
returns-then-n-eq0 c = no_floor _ (sym (finite_many _ (held (goal.at.returns-then-n-eq0 c).After-finite_keys) (taken (goal.at.returns-then-n-eq0 c).After-finite_keys) c.count-n.ensures) ∙ c.if-n-eq0.true)

pub slice_bounds-tenth-end : goal.slice_bounds-tenth-end
slice_bounds-tenth-end c = sym (many (goal.at.slice_bounds-tenth-end c).After-finite_keys)

pub tenth-requires : goal.tenth-requires
tenth-requires c =
    let db = c.args.db.now in
    let n = finite_many db (held (goal.at.tenth-requires c).After-finite_keys) (taken (goal.at.tenth-requires c).After-finite_keys) c.count-n.ensures in
    (omega (arith, c.if-n-eq0.false), omega (arith, n, many (goal.at.tenth-requires c).After-finite_keys, filter_le finite db), omega (arith, many (goal.at.tenth-requires c).After-finite_keys))

pub returns : goal.returns
returns c =
    let n = c.count-n in
    ap Some c.tenth.ensures
    ∙ ap (λ (z : List ℕ). Some (tenth_of (map value_of (take n.result (sorted z))))) (taken (goal.at.returns c).After-finite_keys)
    ∙ floor_is _ n.result (held (goal.at.returns c).After-finite_keys) (finite_many _ (held (goal.at.returns c).After-finite_keys) (taken (goal.at.returns c).After-finite_keys) n.ensures) (omega (arith, c.if-n-eq0.false))
