use Rattle.std.proofs.Common.{◌≡◌, ◌<◌, ◌++◌, rules, refl, ap, sym, subst, ◌∙◌, option_map}
use Rattle.std.specs.List.{flat_map}
use Rattle.std.specs.Result.{IfOk}
use Rattle.scan_expr.specs.Expr.{expr_size}
use Rattle.scan_expr.specs.Infer.{infer, struct_fields}
use Rattle.scan_expr.specs.Needs.{asked, uses, other_names, whole}
use Rattle.scan_core.specs.FieldMasks.{demand_paths, below, lent_names, ends_of}
use Rattle.scan_core.proofs.Masking.{item_uses, fields_uses, test_uses, root_uses, leaf_uses, binary_uses, part_uses, parts_done, part_smaller}
use Rattle.scan_core.proofs.field_masks.+add_uses.Goals as goal

pub add_uses-requires-in-loop-part : goal.add_uses-requires-in-loop-part
add_uses-requires-in-loop-part t c =
    let smaller : expr_size c.part-item.result.expr < expr_size c.args.expr.now.expr =
    part_smaller c.in-Pack.field-0.now c.in-Pack.parts.now c.in-Pack.field-2 _ c.loop-part.part-index c.part-item.result c.in-Pack.ensures.expr c.loop-part-test.true c.part-item.is in
    (search rules, tt)

pub loop-part-preserved : goal.loop-part-preserved
loop-part-preserved t c =
    let old = c.args.paths.now.items in
    let mid = c.loop-part.paths.items in
    part_uses c.in-Pack.parts.now c.loop-part.part-index c.part-item.result c.new-in-loop-part.result.items old mid c.add_uses-in-loop-part.new.paths.items c.loop-part-test.true c.part-item.is c.new-in-loop-part.ensures.items c.loop-part.invariant c.in_ok-add_uses-in-Pack.ensures

pub returns-in-Root : goal.returns-in-Root
returns-in-Root t c =
    let names : c.deref.result.now ≡ c.args.names.items = c.deref.ensures.value in
    let k = below (lent_names c.args.names.items) (ends_of (option_map (λ s. s.now) c.args.ends)) in
    let same = ap (λ z. demand_paths (below (lent_names z) (ends_of (option_map (λ s. s.now) c.args.ends)))) names ∙ root_uses c.args.expr.now.scope c.args.expr.now.expr k c.in-Root.ensures.expr in
    subst (λ z. IfOk c.add_paths.result (λ _. c.add_paths.new.paths.items ≡ c.args.paths.now.items ++ z)) same c.add_paths.ensures

pub returns-in_ok-push-in-GetItem : goal.returns-in_ok-push-in-GetItem
returns-in_ok-push-in-GetItem t c =
    let part = c.in-Unary.part.now in
    let k = ends_of (option_map (λ s. s.now) c.args.ends) in
    let same = item_uses c.args.expr.now.scope c.in-Unary.op.now part c.args.expr.now.expr c.in-GetItem.name c.args.names.items c.push.new.self.items _ k c.in-Unary.ensures.expr c.in-Unary.ensures.scope c.in-GetItem.is c.in_ok-push-in-GetItem.ensures.items refl in
    subst (λ z. IfOk c.add_uses.result (λ _. c.add_uses.new.paths.items ≡ c.args.paths.now.items ++ z)) same c.add_uses.ensures

pub returns-in-Select : goal.returns-in-Select
returns-in-Select t c =
    let k = below (lent_names c.args.names.items) (ends_of (option_map (λ s. s.now) c.args.ends)) in
    let asks = ap (λ w. asked w (struct_fields (infer c.args.expr.now.scope c.in-Unary.part.now.expr)) k) c.in-Select.is in
    let same = fields_uses c.args.expr.now.scope c.in-Unary.op.now c.in-Unary.part.now c.args.expr.now.expr c.in-Select.chosen c.as_slice-ends.result.now c.new.result.items k c.in-Unary.ensures.expr c.in-Unary.ensures.scope asks c.new.ensures.items c.as_slice-ends.ensures in
    subst (λ z. IfOk c.add_uses-in-Select.result (λ _. c.add_uses-in-Select.new.paths.items ≡ c.args.paths.now.items ++ z)) same c.add_uses-in-Select.ensures

pub returns-in_ok-ends-in-Exclude : goal.returns-in_ok-ends-in-Exclude
returns-in_ok-ends-in-Exclude t c =
    let s = c.args.expr.now.scope in
    let part = c.in-Unary.part.now in
    let k = below (lent_names c.args.names.items) (ends_of (option_map (λ s. s.now) c.args.ends)) in
    let asks = ap (λ w. asked w (struct_fields (infer s part.expr)) k) c.in-Exclude.is in
    let fs = c.dtype.ensures.dtype ∙ ap (λ z. infer z part.expr) c.in-Unary.ensures.scope in
    let chosen = c.deref-in-Exclude.ensures.value ∙ c.in_ok-ends-in-Exclude.ensures ∙ ap (λ d. other_names c.in-Exclude.left (struct_fields d)) fs in
    let same = fields_uses s c.in-Unary.op.now part c.args.expr.now.expr (other_names c.in-Exclude.left (struct_fields (infer s part.expr))) c.deref-in-Exclude.result.now c.new-in-Exclude.result.items k c.in-Unary.ensures.expr c.in-Unary.ensures.scope asks c.new-in-Exclude.ensures.items chosen in
    subst (λ z. IfOk c.add_uses-in-Exclude.result (λ _. c.add_uses-in-Exclude.new.paths.items ≡ c.args.paths.now.items ++ z)) same c.add_uses-in-Exclude.ensures

pub returns-in_default-op : goal.returns-in_default-op
returns-in_default-op t c =
    let k = below (lent_names c.args.names.items) (ends_of (option_map (λ s. s.now) c.args.ends)) in
    let other = c.in_default-op in
    let part = c.in-Unary.ensures in
    let same = test_uses c.args.expr.now.scope c.in-Unary.op.now c.in-Unary.part.now c.args.expr.now.expr c.new-in_default-op.result.items k part.expr part.scope (λ n e. other.not-GetItem n e) (λ ns e. other.not-Select ns e) (λ ns e. other.not-Exclude ns e) c.new-in_default-op.ensures.items in
    subst (λ z. IfOk c.add_uses-in_default-op.result (λ _. c.add_uses-in_default-op.new.paths.items ≡ c.args.paths.now.items ++ z)) same c.add_uses-in_default-op.ensures

pub returns-in_ok-add_uses-in-Binary : goal.returns-in_ok-add_uses-in-Binary
returns-in_ok-add_uses-in-Binary t c =
    let x = c.in-Binary.x.now in
    let y = c.in-Binary.y.now in
    let old = c.args.paths.now.items in
    let mid = c.add_uses-in-Binary.new.paths.items in
    let s = c.args.expr.now.scope in
    let k = below (lent_names c.args.names.items) (ends_of (option_map (λ s. s.now) c.args.ends)) in
    let first = c.in_ok-add_uses-in-Binary.ensures ∙ ap (λ z. old ++ flat_map demand_paths (uses x.scope x.expr (below (lent_names z) whole))) c.new-in-Binary.ensures.items in
    let both = binary_uses s c.args.expr.now.expr k x y old mid (ap (λ z. flat_map demand_paths (uses s z k)) (sym c.in-Binary.ensures.expr)) c.in-Binary.ensures.scope.0 c.in-Binary.ensures.scope.1 first in
    let same = ap (λ z. mid ++ flat_map demand_paths (uses y.scope y.expr (below (lent_names z) whole))) c.new-in-Binary-2.ensures.items ∙ both in
    subst (λ z. IfOk c.add_uses-in-Binary-2.result (λ _. c.add_uses-in-Binary-2.new.paths.items ≡ z)) same c.add_uses-in-Binary-2.ensures

pub returns-after-loop-part : goal.returns-after-loop-part
returns-after-loop-part t c =
    let k = below (lent_names c.args.names.items) (ends_of (option_map (λ s. s.now) c.args.ends)) in
    parts_done c.args.expr.now.scope c.in-Pack.field-0.now c.in-Pack.parts.now c.in-Pack.field-2 c.args.expr.now.expr c.loop-part.part-index k c.args.paths.now.items c.loop-part.paths.items c.in-Pack.ensures.expr c.in-Pack.ensures.scope.0 c.loop-part-test.false c.loop-part.invariant

pub returns-in_default : goal.returns-in_default
returns-in_default t c =
    let k = below (lent_names c.args.names.items) (ends_of (option_map (λ s. s.now) c.args.ends)) in
    leaf_uses c.node.result c.args.expr.now.scope c.args.expr.now.expr k c.args.paths.now.items c.node.ensures.expr c.in_default.not-Root (λ u b e. c.in_default.not-Unary u b e) (λ o x y e. c.in_default.not-Binary o x y e) (λ ns bs n e. c.in_default.not-Pack ns bs n e)
