use Rattle.std.proofs.Common.{◌≡◌, ◌∙◌, ap, length, map}
use Rattle.scan_widen.specs.Under.{segment_behind, leaf_behind}
use Rattle.scan_widen.proofs.Building.{ok_as, on_behind, leaf_whole, leaf_stands}
use Rattle.scan_widen.proofs.under.leaf_under.Goals as goal

pub returns-clause-layout : goal.returns-clause-layout
returns-clause-layout c =
    let parts = c.leaf_parts-spelling in
    let whole = leaf_whole (length c.args.made.now.items) c.dtype-own.result.now c.args.dtype.now c.args.node.now c.row_count.result parts.result.0.now c.in_ok-numbers.numbers.items parts.result.1
    c.spelling_of_leaf-kept.result c.eq-same.result c.dtype-own.ensures c.row_count.ensures parts.ensures.segments parts.ensures.spelling c.eq-same.ensures c.in_ok-numbers.ensures.numbered c.spelling_of_leaf-kept.ensures in
    ok_as c.leaf_of.result _ _ whole c.leaf_of.ensures

pub returns-clause-behind : goal.returns-clause-behind
returns-clause-behind c =
    let parts = c.leaf_parts-spelling in
    let from = c.of-from.result in
    let stands = (λ i. map (segment_behind from (c.of-to.ensures i) parts.result.1) parts.result.0.now)
    ∙ leaf_stands from c.args.dtype.now c.args.node.now parts.result.0.now parts.result.1 (c.of-from.ensures ∙ c.dtype-own.ensures) parts.ensures.segments parts.ensures.spelling in
    on_behind c.leaf_of.result c.number_segments.new.made.items c.args.made.now.items (map (segment_behind from c.of-to.result parts.result.1) parts.result.0.now) (leaf_behind c.args.dtype.now c.args.node.now)
    c.in_ok-numbers.ensures.behind stands
