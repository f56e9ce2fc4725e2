-- `region::tenth` meets its contract. Assumes nothing.
use Rattle.std.proofs.Common.{◌≡◌, ℕ, ◌+◌, ◌-◌, ◌/◌, min, leb, map, length, get_or, take, pos, sym, refl, ap, ◌∙◌, arith, length-take-le, get_or-take}
use lib.ListN.{length-map}
use lib.Ieee.{Float, nan, binary64, mul, of_int, of_bits, round}
use Rattle.floats.specs.Total.{value_of}
use Rattle.lists.specs.Sorted.{sorted}
use Rattle.lists.proofs.Ordered.{length_sort}
use Rattle.region.specs.Percentile as percentile
use Rattle.region.specs.Percentile.{rank_of, by_proportion}
use Rattle.region.proofs.Quiet.{value_at, tenth_is}
use Rattle.region.proofs.tenth.Goals as goal

-- 0.1 as the source has it
literal : of_bits binary64 4591870180066957722 ≡ percentile.tenth
unfolding of_bits round
literal = refl

pub returns : goal.returns
returns c =
    let keys = c.args.keys.now in
    let n = c.args.n in
    let l = take n (sorted keys) in
    let m = map value_of l in
    let many : length l ≡ n = length-take-le n (sorted keys) (omega (arith, length_sort leb keys)) in
    let last = n - 1 in
    let b = last / 10 in
    let k = min (b + 1) last in
    let lo-is : c.f32_to_f64_with_nan-lo.result ≡ get_or m b nan =
    c.f32_to_f64_with_nan-lo.ensures ∙ c.from_total_key.ensures ∙ ap value_of (c.kth-x.ensures ∙ sym (get_or-take n (sorted keys) b 0 (omega arith))) ∙ value_at l b (omega arith) in
    let hi-is : c.f32_to_f64_with_nan-hi.result ≡ get_or m k nan =
    c.f32_to_f64_with_nan-hi.ensures ∙ c.from_total_key-2.ensures ∙ ap value_of (c.key_above-y.ensures ∙ sym (get_or-take n (sorted keys) k 0 (omega arith))) ∙ value_at l k (omega arith) in
    let size : length m ≡ n = length-map l value_of ∙ many in
    c.round_to_f32.ensures
    ∙ ap (λ (t : Float). by_proportion (mul binary64 t (of_int binary64 (pos last))) b c.f32_to_f64_with_nan-lo.result c.f32_to_f64_with_nan-hi.result) literal
    ∙ ap (λ (x : Float). by_proportion (rank_of n) b x c.f32_to_f64_with_nan-hi.result) lo-is
    ∙ ap (λ (x : Float). by_proportion (rank_of n) b (get_or m b nan) x) hi-is
    ∙ ap (λ (z : ℕ). by_proportion (rank_of n) b (get_or m b nan) (get_or m (min (b + 1) (z - 1)) nan)) (sym size)
    ∙ tenth_is m n size (omega (arith, c.requires))
