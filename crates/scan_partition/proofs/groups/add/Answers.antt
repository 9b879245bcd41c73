use Rattle.std.proofs.Common.{◌≡◌, rules, arith, sym, ap, ◌∙◌, Some, None, cond, ◌∷◌, [], ◌++◌, length, map}
use Rattle.std.proofs.lemmas.List.{length-map}
use Rattle.scan_partition.specs.Items.{same_item}
use Rattle.scan_partition.specs.Soles.{item_seen}
use Rattle.scan_partition.specs.Plans.{lent_exprs, group_seen}
use Rattle.scan_partition.specs.Places.{index_of}
use Rattle.scan_partition.proofs.Adding.{index_within, added_at, added_new, found_at, found_none, index_kept, index_new, one_more, count_lent}
use Rattle.scan_partition.proofs.groups.add.Goals as goal

pub index-requires : goal.index-requires
index-requires c =
    let at : index_of (item_seen c.args.cut.item) (map group_seen c.args.groups.now.items) ≡ Some c.in-Some.k = sym (c.requires (item_seen c.args.cut.item)) ∙ sym c.in-Some.ensures in
    omega (arith, index_within (item_seen c.args.cut.item) c.args.groups.now.items c.in-Some.k at, c.args.groups.now.ok.0)

pub index_mut-requires : goal.index_mut-requires
index_mut-requires c =
    let at : index_of (item_seen c.args.cut.item) (map group_seen c.args.groups.now.items) ≡ Some c.in-Some.k = sym (c.requires (item_seen c.args.cut.item)) ∙ sym c.in-Some.ensures in
    omega (arith, index_within (item_seen c.args.cut.item) c.args.groups.now.items c.in-Some.k at, c.args.groups.now.ok.0)

pub returns-in_ok-push-in-Some-clause-groups : goal.returns-in_ok-push-in-Some-clause-groups
returns-in_ok-push-in-Some-clause-groups c =
    let at : index_of (item_seen c.args.cut.item) (map group_seen c.args.groups.now.items) ≡ Some c.in-Some.k = sym (c.requires (item_seen c.args.cut.item)) ∙ sym c.in-Some.ensures in
    added_at (item_seen c.args.cut.item) c.args.cut.expr.now.expr c.args.groups.now.items c.in-Some.k c.index_mut.result.now _ at (search rules) (one_more c.index_mut.result.now _ c.args.cut.expr c.in_ok-push-in-Some.ensures.items)

pub returns-in_ok-push-in-Some-clause-number : goal.returns-in_ok-push-in-Some-clause-number
returns-in_ok-push-in-Some-clause-number c =
    let at : index_of (item_seen c.args.cut.item) (map group_seen c.args.groups.now.items) ≡ Some c.in-Some.k = sym (c.requires (item_seen c.args.cut.item)) ∙ sym c.in-Some.ensures in
    c.len-number.ensures ∙ count_lent c.index.result.now ∙ ap length (found_at (item_seen c.args.cut.item) c.args.groups.now.items c.in-Some.k c.index.result.now at (search rules))

pub returns-in_ok-push-in-Some-clause-placed : goal.returns-in_ok-push-in-Some-clause-placed
returns-in_ok-push-in-Some-clause-placed c = λ j.
    let at : index_of (item_seen c.args.cut.item) (map group_seen c.args.groups.now.items) ≡ Some c.in-Some.k = sym (c.requires (item_seen c.args.cut.item)) ∙ sym c.in-Some.ensures in
    c.requires j ∙ sym (ap (index_of j) (returns-in_ok-push-in-Some-clause-groups c) ∙ index_kept (item_seen c.args.cut.item) j c.args.cut.expr.now.expr (map group_seen c.args.groups.now.items) c.in-Some.k at)

pub returns-in_ok-push-in-None-2-clause-groups : goal.returns-in_ok-push-in-None-2-clause-groups
returns-in_ok-push-in-None-2-clause-groups c =
    let at : index_of (item_seen c.args.cut.item) (map group_seen c.args.groups.now.items) ≡ None = sym (c.requires (item_seen c.args.cut.item)) ∙ sym c.in-None.ensures in
    added_new (item_seen c.args.cut.item) c.args.cut.expr.now.expr c.args.groups.now.items _ _ at c.in_ok-push-in-None-2.ensures.items
    (λ i. (item_seen c.args.cut.item, lent_exprs ((c.in_ok-push-in-None.ensures.items ∙ ap (λ bs. bs ++ c.args.cut.expr ∷ []) c.in_ok-parts-in-None.ensures.items) i)))

pub returns-in_ok-push-in-None-2-clause-number : goal.returns-in_ok-push-in-None-2-clause-number
returns-in_ok-push-in-None-2-clause-number c =
    let at : index_of (item_seen c.args.cut.item) (map group_seen c.args.groups.now.items) ≡ None = sym (c.requires (item_seen c.args.cut.item)) ∙ sym c.in-None.ensures in
    sym (ap length (found_none (item_seen c.args.cut.item) c.args.groups.now.items at))

pub returns-in_ok-push-in-None-2-clause-placed : goal.returns-in_ok-push-in-None-2-clause-placed
returns-in_ok-push-in-None-2-clause-placed c = λ j.
    let at : index_of (item_seen c.args.cut.item) (map group_seen c.args.groups.now.items) ≡ None = sym (c.requires (item_seen c.args.cut.item)) ∙ sym c.in-None.ensures in
    let last : c.len.result ≡ length (map group_seen c.args.groups.now.items) = c.len.ensures ∙ c.args.groups.now.ok.0 ∙ sym (length-map c.args.groups.now.items group_seen) in
    c.in_ok-set-in-None.ensures j ∙ (λ t. cond (same_item (item_seen c.args.cut.item) j) (Some (last t)) (c.requires j t))
    ∙ sym (ap (index_of j) (returns-in_ok-push-in-None-2-clause-groups c) ∙ index_new (item_seen c.args.cut.item) j c.args.cut.expr.now.expr (map group_seen c.args.groups.now.items) at)
