use Rattle.std.proofs.Common.{◌≡◌, ◌+◌, ◌-◌, ◌<◌, ℕ, Some, Option, cond, List, length, ap, sym, ◌∙◌, arith, bytes_eq}
use Rattle.scan_values.specs.DataType.{Name}
use Rattle.scan_partition.specs.declared.item.Item.TheVariants.{Field}
use Rattle.scan_partition.proofs.FirstPlaces.{from, from_step, from_first, from_end}
use Rattle.scan_partition.proofs.places.Places.of_names.Goals as goal

pub loop-k-init : goal.loop-k-init
loop-k-init c = λ n. c.new-places.ensures (Field n) ∙ sym (from_end c.args.names.now n) ∙ (let e : length c.args.names.now ≡ length c.args.names.now - 0 = omega arith in ap (λ m. from m c.args.names.now n) e)

pub loop-k-preserved : goal.loop-k-preserved
loop-k-preserved c = λ n.
    let ns : List Name = c.args.names.now in
    let k : ℕ = c.loop-k.k in
    let i : ℕ = length ns - 1 - k in
    let l : i < length ns = omega arith in
    let a : i ≡ length ns - (k + 1) = omega arith in
    let b : length ns - k ≡ i + 1 = omega arith in
    c.in_ok-set.ensures (Field n) ∙ ap (λ (o : Option ℕ). cond (bytes_eq c.index-names-i.result n) (Some i) o) (c.loop-k.invariant n ∙ ap (λ m. from m ns n) b) ∙ sym (from_step ns i c.index-names-i.result n l c.index-names-i.is) ∙ ap (λ m. from m ns n) a

pub returns : goal.returns
returns c = λ n. c.loop-k.invariant n ∙ (let e : length c.args.names.now - c.loop-k.k ≡ 0 = omega arith in ap (λ m. from m c.args.names.now n) e) ∙ from_first c.args.names.now n
