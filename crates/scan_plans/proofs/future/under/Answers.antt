use Rattle.std.proofs.Common.{◌≡◌, ◌∙◌, ◌<◌, ◌≤◌, length, ap, arith}
use Rattle.scan_plans.specs.Projecting.{padded}
use Rattle.scan_plans.proofs.Outer.{next_dtype, next_items, under_done, padded_length}
use Rattle.scan_plans.proofs.future.under.Goals as goal

pub mask-requires : goal.mask-requires
mask-requires c = ap length c.in_ok-bits.ensures ∙ padded_length c.len.result c.known.result.now ∙ c.len.ensures

pub loop-mask-preserved : goal.loop-mask-preserved
loop-mask-preserved c =
    let ms = c.args.masks.now in
    let k = c.loop-mask.mask-index in
    let m = c.mask-item.result in
    let a = c.loop-mask.masked in
    let l : k < length ms = omega (arith, c.loop-mask-test.true) in
    let g : c.in_ok-bits.bits ≡ padded (length a.items) m.known = c.in_ok-bits.ensures ∙ (λ i. padded (c.len.ensures i) (c.known.ensures i)) in
    record {
      dtype = next_dtype ms k m l c.mask-item.is a c.in_ok-masked.masked c.in_ok-bits.bits g c.in_ok-masked.ensures _ c.loop-mask.invariant.dtype;
      items = next_items ms k m l c.mask-item.is a c.in_ok-masked.masked c.in_ok-bits.bits g c.in_ok-masked.ensures _ c.loop-mask.invariant.items;
    }

pub returns : goal.returns
returns c =
    let l : length c.args.masks.now ≤ c.loop-mask.mask-index = omega (arith, c.loop-mask-test.false) in
    under_done c.args.masks.now c.loop-mask.mask-index c.args.column c.loop-mask.masked l c.loop-mask.invariant.dtype c.loop-mask.invariant.items
