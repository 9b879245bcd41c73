use borrow.Author.Rules.{rules}
use Rattle.std.proofs.Common.{◌≡◌, ◌≤◌, ◌<◌, List, length, map, ap, sym, subst, refl, ◌∙◌, arith}
use Rattle.std.specs.List.{items_where_true}
use Rattle.scan_columns.specs.Cells.{vals_in, depth_in, deepest}
use Rattle.scan_columns.specs.declared.cells.Cells.{Cells}
use Rattle.scan_columns.specs.declared.cells.Lists.TheDeep.{deep-Cells}
use Rattle.scan_columns.specs.Typed.{typed}
use Rattle.scan_columns.specs.Nested.{Deep, AreLong, total, cuts, spread, list_of, struct_of, rows_of}
use Rattle.scan_columns.proofs.TypedLemmas.{where_lengths}
use Rattle.scan_columns.proofs.NestedLemmas.{lists_count, structs_count, spread_length, whole_where, lists_where, long_where, structs_where}
use Rattle.scan_columns.proofs.FieldLemmas.{child_falls, long_at, columns_done}
use Rattle.scan_columns.proofs.cells.+filter.Goals as goal

pub Lists::filter-spread-requires : goal.Lists::filter-spread-requires
Lists::filter-spread-requires t c =
    let ns = c.self.inside.ends in
    let bs = c.self.inside.valid.items in
    let es = vals_in c.self.inside.elements.value in
    let count : length c.args.self.now.items ≡ length ns = lists_count (depth_in c.self.inside.elements.value) ns es bs c.args.self.now c.self.view_is c.self.invariant.0 in
    c.requires ∙ count

pub Lists::filter-filter-requires : goal.Lists::filter-filter-requires
Lists::filter-filter-requires t c =
    let ns = c.self.inside.ends in
    let bs = c.self.inside.valid.items in
    let es = vals_in c.self.inside.elements.value in
    let count : length c.args.self.now.items ≡ length ns = lists_count (depth_in c.self.inside.elements.value) ns es bs c.args.self.now c.self.view_is c.self.invariant.0 in
    c.requires ∙ count

pub Lists::filter-kept-requires : goal.Lists::filter-kept-requires
Lists::filter-kept-requires t c =
    let ns = c.self.inside.ends in
    let bs = c.self.inside.valid.items in
    let es = vals_in c.self.inside.elements.value in
    let count : length c.args.self.now.items ≡ length ns = lists_count (depth_in c.self.inside.elements.value) ns es bs c.args.self.now c.self.view_is c.self.invariant.0 in
    c.requires ∙ count ∙ sym c.self.invariant.0 ∙ ap length (sym c.as_slice.ensures.value)

pub Lists::filter-filter-requires-2 : goal.Lists::filter-filter-requires-2
Lists::filter-filter-requires-2 t c =
    let ns = c.self.inside.ends in
    let bs = c.self.inside.valid.items in
    let es = vals_in c.self.inside.elements.value in
    let count : length c.args.self.now.items ≡ length ns = lists_count (depth_in c.self.inside.elements.value) ns es bs c.args.self.now c.self.view_is c.self.invariant.0 in
    let within : c.in_ok-within.within ≡ spread c.args.m.now ns = search (rules, c.in_ok-within.ensures) in
    let lent : c.deref.result.now ≡ c.self.inside.elements.value = search (rules, c.deref.ensures) in
    let even : length c.in_ok-within.within ≡ length (vals_in c.deref.result.now) = ap length within ∙ spread_length c.args.m.now ns (c.requires ∙ count) ∙ c.self.invariant.1 ∙ ap (λ x. length (vals_in x)) (sym lent) in
    search (rules, even)

pub Lists::filter-new-requires-2-clause-even : goal.Lists::filter-new-requires-2-clause-even
Lists::filter-new-requires-2-clause-even t c =
    let ns = c.self.inside.ends in
    let bs = c.self.inside.valid.items in
    let es = vals_in c.self.inside.elements.value in
    let count : length c.args.self.now.items ≡ length ns = lists_count (depth_in c.self.inside.elements.value) ns es bs c.args.self.now c.self.view_is c.self.invariant.0 in
    let valid : c.in_ok-valid.valid.items ≡ items_where_true c.args.m.now bs = search (rules, c.in_ok-valid.ensures, c.as_slice.ensures.value) in
    let ends : c.in_ok-ends.ends ≡ items_where_true c.args.m.now ns = search (rules, c.in_ok-ends.ensures) in
    let seen = c.ends.view_is ∙ ends in
    ap length valid ∙ where_lengths c.args.m.now ns bs c.self.invariant.0 ∙ ap length (sym seen)

pub Lists::filter-new-requires-2-clause-whole : goal.Lists::filter-new-requires-2-clause-whole
Lists::filter-new-requires-2-clause-whole t c =
    let ns = c.self.inside.ends in
    let bs = c.self.inside.valid.items in
    let es = vals_in c.self.inside.elements.value in
    let count : length c.args.self.now.items ≡ length ns = lists_count (depth_in c.self.inside.elements.value) ns es bs c.args.self.now c.self.view_is c.self.invariant.0 in
    let ends : c.in_ok-ends.ends ≡ items_where_true c.args.m.now ns = search (rules, c.in_ok-ends.ensures) in
    let seen = c.ends.view_is ∙ ends in
    let within : c.in_ok-within.within ≡ spread c.args.m.now ns = search (rules, c.in_ok-within.ensures) in
    let lent : c.deref.result.now ≡ c.self.inside.elements.value = search (rules, c.deref.ensures) in
    let made : vals_in c.in_ok-elements.elements ≡ items_where_true c.in_ok-within.within (vals_in c.deref.result.now) = search (rules, c.in_ok-elements.ensures) in
    let boxed : c.in_ok-new.field-0.value ≡ c.in_ok-elements.elements = search (rules, c.in_ok-new.ensures.ok) in
    let elements : vals_in c.in_ok-new.field-0.value ≡ items_where_true (spread c.args.m.now ns) es = ap vals_in boxed ∙ made ∙ (λ i. items_where_true (within i) (vals_in (lent i))) in
    ap total seen ∙ whole_where c.args.m.now ns es (c.requires ∙ count) c.self.invariant.1 ∙ ap length (sym elements)

pub Lists::filter-returns : goal.Lists::filter-returns
Lists::filter-returns t c =
    let ns = c.self.inside.ends in
    let bs = c.self.inside.valid.items in
    let es = vals_in c.self.inside.elements.value in
    let count : length c.args.self.now.items ≡ length ns = lists_count (depth_in c.self.inside.elements.value) ns es bs c.args.self.now c.self.view_is c.self.invariant.0 in
    let valid : c.in_ok-valid.valid.items ≡ items_where_true c.args.m.now bs = search (rules, c.in_ok-valid.ensures, c.as_slice.ensures.value) in
    let ends : c.in_ok-ends.ends ≡ items_where_true c.args.m.now ns = search (rules, c.in_ok-ends.ensures) in
    let seen = c.ends.view_is ∙ ends in
    let within : c.in_ok-within.within ≡ spread c.args.m.now ns = search (rules, c.in_ok-within.ensures) in
    let lent : c.deref.result.now ≡ c.self.inside.elements.value = search (rules, c.deref.ensures) in
    let made : vals_in c.in_ok-elements.elements ≡ items_where_true c.in_ok-within.within (vals_in c.deref.result.now) = search (rules, c.in_ok-elements.ensures) in
    let boxed : c.in_ok-new.field-0.value ≡ c.in_ok-elements.elements = search (rules, c.in_ok-new.ensures.ok) in
    let elements : vals_in c.in_ok-new.field-0.value ≡ items_where_true (spread c.args.m.now ns) es = ap vals_in boxed ∙ made ∙ (λ i. items_where_true (within i) (vals_in (lent i))) in
    c.new-2.ensures ∙ (λ i. typed list_of (cuts (seen i) (elements i)) (valid i))
    ∙ lists_where c.args.m.now ns es bs (c.requires ∙ count) c.self.invariant.0 c.self.invariant.1 ∙ (λ i. items_where_true c.args.m.now (c.self.view_is i).items)

pub Structs::filter-kept-requires : goal.Structs::filter-kept-requires
Structs::filter-kept-requires t c =
    let bs = c.self.inside.valid.items in
    let cells = c.self.inside.fields.items in
    let cs = map vals_in cells in
    let count : length c.args.self.now.items ≡ length bs = structs_count (deepest cells) cs bs c.args.self.now c.self.view_is in
    c.requires ∙ count ∙ ap length (sym c.as_slice.ensures.value)

pub Structs::filter-filter-requires : goal.Structs::filter-filter-requires
Structs::filter-filter-requires t c =
    let bs = c.self.inside.valid.items in
    let cells = c.self.inside.fields.items in
    let cs = map vals_in cells in
    let count : length c.args.self.now.items ≡ length bs = structs_count (deepest cells) cs bs c.args.self.now c.self.view_is in
    let items = c.deref-field-items.result.now in
    let same : items ≡ cells = c.deref-field-items.ensures.value in
    let below : c.loop-field.field-index < length items = search (rules, c.loop-field-test.true) in
    let even : length c.args.m.now ≡ length (vals_in c.field-item.result) = c.requires ∙ count ∙ sym (long_at (length bs) items c.loop-field.field-index c.field-item.result (subst (λ (z : List Cells). AreLong (length bs) (map vals_in z)) (sym same) c.self.invariant) below c.field-item.is) in
    let falls : deep-Cells c.field-item.result ≤ c.args.self.now.depth = child_falls items c.loop-field.field-index c.field-item.result c.args.self.now below c.field-item.is (ap deepest same ∙ ap (λ (d : Deep). d.depth) c.self.view_is) in
    let told = c.decreases in
    (omega (arith, falls, told), even)

pub Structs::filter-new-requires : goal.Structs::filter-new-requires
Structs::filter-new-requires t c =
    let bs = c.self.inside.valid.items in
    let cells = c.self.inside.fields.items in
    let cs = map vals_in cells in
    let count : length c.args.self.now.items ≡ length bs = structs_count (deepest cells) cs bs c.args.self.now c.self.view_is in
    let valid : c.in_ok-valid.valid.items ≡ items_where_true c.args.m.now bs = search (rules, c.in_ok-valid.ensures, c.as_slice.ensures.value) in
    let items = c.deref-field-items.result.now in
    let same : items ≡ cells = c.deref-field-items.ensures.value in
    let done : length items ≤ c.loop-field.field-index = search (rules, c.loop-field-test.false) in
    let fields : map vals_in c.loop-field.fields.items ≡ map (items_where_true c.args.m.now) cs =
    columns_done (λ (z : List Cells). map (items_where_true c.args.m.now) (map vals_in z)) items c.loop-field.field-index (map vals_in c.loop-field.fields.items)
    (map (items_where_true c.args.m.now) (map vals_in items)) refl done c.loop-field.invariant ∙ (λ i. map (items_where_true c.args.m.now) (map vals_in (same i))) in
    rw (valid, fields) (long_where c.args.m.now bs cs c.self.invariant)

pub Structs::filter-returns : goal.Structs::filter-returns
Structs::filter-returns t c =
    let bs = c.self.inside.valid.items in
    let cells = c.self.inside.fields.items in
    let cs = map vals_in cells in
    let count : length c.args.self.now.items ≡ length bs = structs_count (deepest cells) cs bs c.args.self.now c.self.view_is in
    let valid : c.in_ok-valid.valid.items ≡ items_where_true c.args.m.now bs = search (rules, c.in_ok-valid.ensures, c.as_slice.ensures.value) in
    let items = c.deref-field-items.result.now in
    let same : items ≡ cells = c.deref-field-items.ensures.value in
    let done : length items ≤ c.loop-field.field-index = search (rules, c.loop-field-test.false) in
    let fields : map vals_in c.loop-field.fields.items ≡ map (items_where_true c.args.m.now) cs =
    columns_done (λ (z : List Cells). map (items_where_true c.args.m.now) (map vals_in z)) items c.loop-field.field-index (map vals_in c.loop-field.fields.items)
    (map (items_where_true c.args.m.now) (map vals_in items)) refl done c.loop-field.invariant ∙ (λ i. map (items_where_true c.args.m.now) (map vals_in (same i))) in
    c.new.ensures ∙ (λ i. typed struct_of (rows_of (length (valid i)) (fields i)) (valid i))
    ∙ structs_where c.args.m.now bs cs c.self.invariant ∙ (λ i. items_where_true c.args.m.now (c.self.view_is i).items)
