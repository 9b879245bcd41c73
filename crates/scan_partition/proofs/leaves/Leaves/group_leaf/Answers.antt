use Rattle.std.proofs.Common.{rules, arith, ◌≡◌, ◌≤◌, ◌<◌, length, ap, sym, ◌∙◌}
use Rattle.std.specs.Vec.{vec_len}
use Rattle.std.specs.Fmt.{decimal}
use Rattle.scan_expr.specs.Bound.{Bound, bound_of}
use Rattle.scan_expr.specs.Expr.{root, unary}
use Rattle.scan_expr.specs.Infer.{infer}
use Rattle.scan_expr.specs.Typing.{unary_fault}
use Rattle.scan_expr.specs.declared.op.Unary.TheVariants.{GetItem}
use Rattle.scan_partition.specs.Items.{item_name}
use Rattle.scan_partition.specs.Leaves.{groups_in, scope_in}
use Rattle.scan_partition.specs.Partition.{found}
use Rattle.scan_partition.specs.Soles.{item_seen}
use Rattle.scan_partition.proofs.Adding.{index_within, found_at, count_lent}
use Rattle.scan_partition.proofs.Leaf.{as_many, group_item, leaf_alone, leaf_more, leaf_fits}
use Rattle.scan_partition.proofs.Loops.{if_ok}
use Rattle.scan_partition.proofs.leaves.Leaves.group_leaf.Goals as goal

pub index-requires : goal.index-requires
index-requires c =
    omega (
      arith,
      index_within (item_seen c.args.leaf.item) c.args.self.now.plan.now.groups.items c.args.place (sym c.requires.place),
      c.args.self.now.items.ok.0,
      as_many (scope_in c.args.self.now) c.args.self.now.plan.now.groups.items c.args.self.now.items.items c.args.self.now.made,
    )

pub index-requires-2 : goal.index-requires-2
index-requires-2 c = omega (arith, index_within (item_seen c.args.leaf.item) c.args.self.now.plan.now.groups.items c.args.place (sym c.requires.place), c.args.self.now.plan.now.groups.ok.0)

pub returns-then-len-le1 : goal.returns-then-len-le1
returns-then-len-le1 c =
    let i = item_seen c.args.leaf.item in
    let gs = c.args.self.now.plan.now.groups.items in
    let s = scope_in c.args.self.now in
    let part : c.in_ok-part.part ≡ bound_of s (unary (GetItem (item_name i)) root) =
    c.in_ok-part.ensures ∙ group_item i (groups_in c.args.self.now) c.args.self.now.items.items c.args.place s c.index.result.now (sym c.requires.place) c.args.self.now.made (search rules) in
    let count : vec_len c.index-2.result.now.parts ≡ length (found i (groups_in c.args.self.now)) = count_lent c.index-2.result.now ∙ ap length (found_at i gs c.args.place c.index-2.result.now (sym c.requires.place) (search rules)) in
    let few : length (found i (groups_in c.args.self.now)) ≤ 1 = omega (arith, count, c.len.ensures) in
    part ∙ ap (bound_of s) (sym (leaf_alone (found i (groups_in c.args.self.now)) i c.args.leaf.number few))

pub unary-requires : goal.unary-requires
unary-requires c =
    let i = item_seen c.args.leaf.item in
    let gs = c.args.self.now.plan.now.groups.items in
    let s = scope_in c.args.self.now in
    let part : c.in_ok-part.part ≡ bound_of s (unary (GetItem (item_name i)) root) =
    c.in_ok-part.ensures ∙ group_item i (groups_in c.args.self.now) c.args.self.now.items.items c.args.place s c.index.result.now (sym c.requires.place) c.args.self.now.made (search rules) in
    let count : vec_len c.index-2.result.now.parts ≡ length (found i (groups_in c.args.self.now)) = count_lent c.index-2.result.now ∙ ap length (found_at i gs c.args.place c.index-2.result.now (sym c.requires.place) (search rules)) in
    let more : 1 < length (found i (groups_in c.args.self.now)) = omega (arith, count, c.len.ensures) in
    ap (λ n. unary_fault (GetItem n) (infer c.in_ok-part.part.scope c.in_ok-part.part.expr)) c.in_ok-name.ensures ∙ ap (λ (b : Bound). unary_fault (GetItem (decimal c.args.leaf.number)) (infer b.scope b.expr)) part
    ∙ leaf_fits s (found i (groups_in c.args.self.now)) i c.args.leaf.number more c.requires.holds

pub returns : goal.returns
returns c =
    let i = item_seen c.args.leaf.item in
    let gs = c.args.self.now.plan.now.groups.items in
    let s = scope_in c.args.self.now in
    let part : c.in_ok-part.part ≡ bound_of s (unary (GetItem (item_name i)) root) =
    c.in_ok-part.ensures ∙ group_item i (groups_in c.args.self.now) c.args.self.now.items.items c.args.place s c.index.result.now (sym c.requires.place) c.args.self.now.made (search rules) in
    let count : vec_len c.index-2.result.now.parts ≡ length (found i (groups_in c.args.self.now)) = count_lent c.index-2.result.now ∙ ap length (found_at i gs c.args.place c.index-2.result.now (sym c.requires.place) (search rules)) in
    let more : 1 < length (found i (groups_in c.args.self.now)) = omega (arith, count, c.len.ensures) in
    if_ok _ _ c.unary.result
    (λ b h. h ∙ (λ j. bound_of (part j).scope (unary (GetItem (c.in_ok-name.ensures j)) (part j).expr)) ∙ ap (bound_of s) (sym (leaf_more (found i (groups_in c.args.self.now)) i c.args.leaf.number more)))
    c.unary.ensures
