-- The floor by places in the total order: sorted, the places of the finite entries come first (`finite_first`), and the values there are those entries in order, so
-- the 10th percentile needs only two of the places (`tenth_is`, `floor_is`). Assumes nothing.
use Rattle.std.proofs.Common.{◌≡◌, ℕ, ◌-◌, ◌/◌, ◌<◌, ◌≤◌, Bool, true, false, cond, T, leb, List, [], ◌∷◌, ◌++◌, map, Some, None, length, get_or, take, sym, refl, ap, ◌∙◌, subst, le_refl, le_of_lt, arith, le-leb}
use lib.ListN.{length-map, get_or-map}
use lib.Seq.{take-append_seam}
use lib.Ieee.{Float, nan, binary32, fits}
use lib.Ieee.Scale.{finite}
use Rattle.floats.specs.Total.{total_key, finite_key, value_of, not_after}
use Rattle.floats.proofs.Order.{finite_before}
use Rattle.lists.specs.Results.{more_if, cons_if, filter}
use Rattle.lists.specs.By.{Each, sort_by}
use Rattle.lists.specs.Sorted.{Low, insert, sorted}
use Rattle.lists.proofs.Entries.{each_both, each_filter, each_kept, each_of_map}
use Rattle.lists.proofs.Keys.{Held, sorted_values}
use Rattle.lists.proofs.Parts.{get_d_any}
use Rattle.lists.proofs.Ordered.{each_sort, length_sort}
use Rattle.lists.proofs.Sorting.{low_trans, insert_front, insert_past}
use Rattle.select.specs.Order.{at_most}
use Rattle.region.specs.Percentile.{rank_of, interpolated, tenth_of, floor_in, floor_of}
use Rattle.region.proofs.Rank.{whole_part_lem}

-- ---- the places of the finite entries come first
finite_below : (db : List Float) → Held db → Each (λ k. k < 4294967295) (map total_key (filter finite db))
finite_below db h =
    let l = filter finite db in
    each_of_map (λ k. k < 4294967295) total_key l
    (each_both (λ x. T (fits binary32 x)) (λ x. finite x ≡ true) (λ x. total_key x < 4294967295) finite_before l (each_kept (λ x. T (fits binary32 x)) finite db h) (each_filter finite db))

-- l is `front` and then nothing but the last place of all
record Begins (l front : List ℕ) : Type 0 where
  rest : List ℕ
  low : Low 4294967295 rest
  whole : l ≡ front ++ rest

finite_first : (db : List Float) → Held db → Begins (sorted (map finite_key db)) (sorted (map total_key (filter finite db)))
unfolding filter
finite_first [] h = record { rest = []; low = tt; whole = refl }
finite_first (x ∷ db) h = go (finite x) refl (finite_first db h.1)
  where
    front : List ℕ
    front = sorted (map total_key (filter finite db))

    go : (b : Bool) → finite x ≡ b → Begins (sorted (map finite_key db)) front → Begins (insert (cond b (total_key x) 4294967295) (sorted (map finite_key db))) (sorted (map total_key (cons_if b x (filter finite db))))
    go true e p = record {
      rest = p.rest;
      low = p.low;
      whole = ap (insert (total_key x)) p.whole ∙ insert_front (total_key x) front p.rest (low_trans (total_key x) 4294967295 p.rest (le_of_lt (finite_before x h.0 e)) p.low);
    }
    go false e p = record {
      rest = 4294967295 ∷ p.rest;
      low = (le_refl 4294967295, p.low);
      whole = ap (insert 4294967295) p.whole ∙ insert_past 4294967295 front p.rest (each_sort leb (λ k. k < 4294967295) (map total_key (filter finite db)) (finite_below db h.1)) p.low;
    }

finite_count : (db : List Float) → Held db → at_most 4294967294 (map finite_key db) ≡ length (filter finite db)
unfolding filter
finite_count [] h = refl
finite_count (x ∷ db) h = go (finite x) refl (finite_count db h.1)
  where
    go : (b : Bool) → finite x ≡ b → at_most 4294967294 (map finite_key db) ≡ length (filter finite db)
        → more_if (leb (cond b (total_key x) 4294967295) 4294967294) (at_most 4294967294 (map finite_key db)) ≡ length (cons_if b x (filter finite db))
    go true e r = rw (le-leb (total_key x) 4294967294 (omega (arith, finite_before x h.0 e))) (omega (arith, r))
    go false e r = r

pub finite_many : (db : List Float) {keys : List ℕ} {n : ℕ} → Held db → keys ≡ map finite_key db → n ≡ at_most 4294967294 keys → n ≡ length (filter finite db)
finite_many db held e h = h ∙ ap (at_most 4294967294) e ∙ finite_count db held

finite_taken : (db : List Float) (n : ℕ) → Held db → n ≡ length (filter finite db) → take n (sorted (map finite_key db)) ≡ sorted (map total_key (filter finite db))
finite_taken db n h e =
    let p = finite_first db h in
    let front = sorted (map total_key (filter finite db)) in
    rw (p.whole, e, ← length-map (filter finite db) total_key, ← length_sort leb (map total_key (filter finite db))) (take-append_seam front p.rest)

-- ---- two places of the sorted ones
pub value_at : (keys : List ℕ) (i : ℕ) → i < length keys → value_of (get_or keys i 0) ≡ get_or (map value_of keys) i nan
value_at keys i h =
    sym (get_or-map value_of keys i 0) ∙ get_d_any (map value_of keys) i (value_of 0) nan (subst (λ (n : ℕ). i < n) (sym (length-map keys value_of)) h)

pub tenth_is : (s : List Float) (n : ℕ) → length s ≡ n → n ≤ 2048 → interpolated s (rank_of n) ((n - 1) / 10) ≡ tenth_of s
unfolding tenth_of
tenth_is s n e h = ap (interpolated s (rank_of n)) (sym (whole_part_lem n h)) ∙ rw e

-- ---- the floor
pub no_floor : (db : List Float) → length (filter finite db) ≡ 0 → None ≡ floor_of db
no_floor db e = go (sort_by not_after (filter finite db)) (length_sort not_after (filter finite db) ∙ e)
  where
    go : (s : List Float) → length s ≡ 0 → None ≡ floor_in s
    go [] h = refl
    go (x ∷ s) h = absurd (omega arith)

pub floor_is : (db : List Float) (n : ℕ) → Held db → n ≡ length (filter finite db) → 0 < n → Some (tenth_of (map value_of (take n (sorted (map finite_key db))))) ≡ floor_of db
floor_is db n held e h =
    ap (λ (z : List ℕ). Some (tenth_of (map value_of z))) (finite_taken db n held e)
    ∙ ap (λ (z : List Float). Some (tenth_of z)) (sorted_values (filter finite db) (each_kept (λ x. T (fits binary32 x)) finite db held))
    ∙ go (sort_by not_after (filter finite db)) (rw (length_sort not_after (filter finite db), ← e) h)
  where
    go : (s : List Float) → 0 < length s → Some (tenth_of s) ≡ floor_in s
    go [] g = absurd (omega arith)
    go (x ∷ s) g = refl
