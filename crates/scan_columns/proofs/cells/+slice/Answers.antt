use borrow.Author.Rules.{rules}
use Rattle.std.proofs.Common.{◌≡◌, ◌≤◌, ◌<◌, List, length, take, map, ap, sym, subst, refl, ◌∙◌, arith, slice_range}
use Rattle.scan_values.specs.Val.{Val}
use Rattle.scan_columns.specs.Cells.{vals_in, depth_in, deepest}
use Rattle.scan_columns.specs.declared.cells.Cells.{Cells}
use Rattle.scan_columns.specs.declared.cells.Lists.TheDeep.{deep-Cells}
use Rattle.scan_columns.specs.Typed.{typed}
use Rattle.scan_columns.specs.Nested.{Deep, AreLong, total, cuts, list_of, struct_of, rows_of}
use Rattle.scan_columns.proofs.NestedLemmas.{lists_count, structs_count, total_ordered, total_take, whole_slice, lists_slice, long_slice, structs_slice}
use Rattle.scan_columns.proofs.FieldLemmas.{child_falls, long_at, columns_done}
use Rattle.scan_columns.proofs.cells.+slice.Goals as goal

pub Lists::slice-start-from-requires : goal.Lists::slice-start-from-requires
Lists::slice-start-from-requires t c =
    let ns = c.self.inside.ends in
    let bs = c.self.inside.valid.items in
    let es = vals_in c.self.inside.elements.value in
    let count : length c.args.self.now.items ≡ length ns = lists_count (depth_in c.self.inside.elements.value) ns es bs c.args.self.now c.self.view_is c.self.invariant.0 in
    omega (arith, count, c.requires.ordered, c.requires.within)

pub Lists::slice-start-to-requires : goal.Lists::slice-start-to-requires
Lists::slice-start-to-requires t c =
    let ns = c.self.inside.ends in
    let bs = c.self.inside.valid.items in
    let es = vals_in c.self.inside.elements.value in
    let count : length c.args.self.now.items ≡ length ns = lists_count (depth_in c.self.inside.elements.value) ns es bs c.args.self.now c.self.view_is c.self.invariant.0 in
    omega (arith, count, c.requires.within)

pub Lists::slice-slice-requires-clause-within : goal.Lists::slice-slice-requires-clause-within
Lists::slice-slice-requires-clause-within t c =
    let ns = c.self.inside.ends in
    let bs = c.self.inside.valid.items in
    let es = vals_in c.self.inside.elements.value in
    let count : length c.args.self.now.items ≡ length ns = lists_count (depth_in c.self.inside.elements.value) ns es bs c.args.self.now c.self.view_is c.self.invariant.0 in
    omega (arith, count, c.requires.within)

pub Lists::slice-part-requires-clause-within : goal.Lists::slice-part-requires-clause-within
Lists::slice-part-requires-clause-within t c =
    let ns = c.self.inside.ends in
    let bs = c.self.inside.valid.items in
    let es = vals_in c.self.inside.elements.value in
    let count : length c.args.self.now.items ≡ length ns = lists_count (depth_in c.self.inside.elements.value) ns es bs c.args.self.now c.self.view_is c.self.invariant.0 in
    omega (arith, count, c.requires.within, c.self.invariant.0, ap length c.as_slice.ensures.value)

pub Lists::slice-slice-requires-2 : goal.Lists::slice-slice-requires-2
Lists::slice-slice-requires-2 t c =
    let ns = c.self.inside.ends in
    let bs = c.self.inside.valid.items in
    let es = vals_in c.self.inside.elements.value in
    let count : length c.args.self.now.items ≡ length ns = lists_count (depth_in c.self.inside.elements.value) ns es bs c.args.self.now c.self.view_is c.self.invariant.0 in
    let from : c.start-from.result ≡ total (take c.args.r.start ns) = search (rules, c.start-from.ensures) in
    let to : c.start-to.result ≡ total (take c.args.r.end ns) = search (rules, c.start-to.ensures) in
    let lent : c.deref.result.now ≡ c.self.inside.elements.value = search (rules, c.deref.ensures) in
    let ordered : c.start-from.result ≤ c.start-to.result = omega (arith, from, to, total_ordered c.args.r.start c.args.r.end ns c.requires.ordered) in
    let within : c.start-to.result ≤ length (vals_in c.deref.result.now) = omega (arith, to, total_take c.args.r.end ns, c.self.invariant.1, ap (λ x. length (vals_in x)) lent) in
    search (rules, ordered, within)

pub Lists::slice-new-requires-2-clause-whole : goal.Lists::slice-new-requires-2-clause-whole
Lists::slice-new-requires-2-clause-whole t c =
    let ns = c.self.inside.ends in
    let bs = c.self.inside.valid.items in
    let es = vals_in c.self.inside.elements.value in
    let count : length c.args.self.now.items ≡ length ns = lists_count (depth_in c.self.inside.elements.value) ns es bs c.args.self.now c.self.view_is c.self.invariant.0 in
    let ends : c.in_ok-ends.ends ≡ slice_range ns c.args.r.start c.args.r.end = search (rules, c.in_ok-ends.ensures) in
    let seen = c.ends.view_is ∙ ends in
    let from : c.start-from.result ≡ total (take c.args.r.start ns) = search (rules, c.start-from.ensures) in
    let to : c.start-to.result ≡ total (take c.args.r.end ns) = search (rules, c.start-to.ensures) in
    let lent : c.deref.result.now ≡ c.self.inside.elements.value = search (rules, c.deref.ensures) in
    let made : vals_in c.in_ok-elements.elements ≡ slice_range (vals_in c.deref.result.now) c.start-from.result c.start-to.result = search (rules, c.in_ok-elements.ensures) in
    let boxed : c.in_ok-new.field-0.value ≡ c.in_ok-elements.elements = search (rules, c.in_ok-new.ensures.ok) in
    let elements : vals_in c.in_ok-new.field-0.value ≡ slice_range es (total (take c.args.r.start ns)) (total (take c.args.r.end ns)) = ap vals_in boxed ∙ made ∙ (λ i. slice_range (vals_in (lent i)) (from i) (to i)) in
    ap total seen ∙ whole_slice c.args.r.start c.args.r.end ns es c.requires.ordered c.self.invariant.1 ∙ ap length (sym elements)

pub Lists::slice-returns : goal.Lists::slice-returns
Lists::slice-returns t c =
    let ns = c.self.inside.ends in
    let bs = c.self.inside.valid.items in
    let es = vals_in c.self.inside.elements.value in
    let count : length c.args.self.now.items ≡ length ns = lists_count (depth_in c.self.inside.elements.value) ns es bs c.args.self.now c.self.view_is c.self.invariant.0 in
    let valid : c.in_ok-valid.valid.items ≡ slice_range bs c.args.r.start c.args.r.end = search (rules, c.in_ok-valid.ensures, c.as_slice.ensures.value) in
    let ends : c.in_ok-ends.ends ≡ slice_range ns c.args.r.start c.args.r.end = search (rules, c.in_ok-ends.ensures) in
    let seen = c.ends.view_is ∙ ends in
    let from : c.start-from.result ≡ total (take c.args.r.start ns) = search (rules, c.start-from.ensures) in
    let to : c.start-to.result ≡ total (take c.args.r.end ns) = search (rules, c.start-to.ensures) in
    let lent : c.deref.result.now ≡ c.self.inside.elements.value = search (rules, c.deref.ensures) in
    let made : vals_in c.in_ok-elements.elements ≡ slice_range (vals_in c.deref.result.now) c.start-from.result c.start-to.result = search (rules, c.in_ok-elements.ensures) in
    let boxed : c.in_ok-new.field-0.value ≡ c.in_ok-elements.elements = search (rules, c.in_ok-new.ensures.ok) in
    let elements : vals_in c.in_ok-new.field-0.value ≡ slice_range es (total (take c.args.r.start ns)) (total (take c.args.r.end ns)) = ap vals_in boxed ∙ made ∙ (λ i. slice_range (vals_in (lent i)) (from i) (to i)) in
    c.new-2.ensures ∙ (λ i. typed list_of (cuts (seen i) (elements i)) (valid i))
    ∙ lists_slice c.args.r.start c.args.r.end ns es bs c.requires.ordered c.self.invariant.0 ∙ (λ i. slice_range (c.self.view_is i).items c.args.r.start c.args.r.end)

pub Structs::slice-part-requires-clause-within : goal.Structs::slice-part-requires-clause-within
Structs::slice-part-requires-clause-within t c =
    let bs = c.self.inside.valid.items in
    let cells = c.self.inside.fields.items in
    let cs = map vals_in cells in
    let count : length c.args.self.now.items ≡ length bs = structs_count (deepest cells) cs bs c.args.self.now c.self.view_is in
    omega (arith, count, c.requires.within, ap length c.as_slice.ensures.value)

pub Structs::slice-slice-requires : goal.Structs::slice-slice-requires
Structs::slice-slice-requires t c =
    let bs = c.self.inside.valid.items in
    let cells = c.self.inside.fields.items in
    let cs = map vals_in cells in
    let count : length c.args.self.now.items ≡ length bs = structs_count (deepest cells) cs bs c.args.self.now c.self.view_is in
    let items = c.deref-field-items.result.now in
    let same : items ≡ cells = c.deref-field-items.ensures.value in
    let below : c.loop-field.field-index < length items = search (rules, c.loop-field-test.true) in
    let even : length (vals_in c.field-item.result) ≡ length bs = long_at (length bs) items c.loop-field.field-index c.field-item.result (subst (λ (z : List Cells). AreLong (length bs) (map vals_in z)) (sym same) c.self.invariant) below c.field-item.is in
    let ordered : c.args.r.start ≤ c.args.r.end = c.requires.ordered in
    let within : c.args.r.end ≤ length (vals_in c.field-item.result) = omega (arith, even, count, c.requires.within) in
    let falls : deep-Cells c.field-item.result ≤ c.args.self.now.depth = child_falls items c.loop-field.field-index c.field-item.result c.args.self.now below c.field-item.is (ap deepest same ∙ ap (λ (d : Deep). d.depth) c.self.view_is) in
    let told = c.decreases in
    (omega (arith, falls, told), (ordered, within))

pub Structs::slice-new-requires : goal.Structs::slice-new-requires
Structs::slice-new-requires t c =
    let bs = c.self.inside.valid.items in
    let cells = c.self.inside.fields.items in
    let cs = map vals_in cells in
    let count : length c.args.self.now.items ≡ length bs = structs_count (deepest cells) cs bs c.args.self.now c.self.view_is in
    let valid : c.in_ok-valid.valid.items ≡ slice_range bs c.args.r.start c.args.r.end = search (rules, c.in_ok-valid.ensures, c.as_slice.ensures.value) in
    let items = c.deref-field-items.result.now in
    let same : items ≡ cells = c.deref-field-items.ensures.value in
    let done : length items ≤ c.loop-field.field-index = search (rules, c.loop-field-test.false) in
    let fields : map vals_in c.loop-field.fields.items ≡ map (λ (z : List Val). slice_range z c.args.r.start c.args.r.end) cs =
    columns_done (λ (z : List Cells). map (λ (z : List Val). slice_range z c.args.r.start c.args.r.end) (map vals_in z)) items c.loop-field.field-index (map vals_in c.loop-field.fields.items)
    (map (λ (z : List Val). slice_range z c.args.r.start c.args.r.end) (map vals_in items)) refl done c.loop-field.invariant ∙ (λ i. map (λ (z : List Val). slice_range z c.args.r.start c.args.r.end) (map vals_in (same i))) in
    let inside : c.args.r.end ≤ length bs = omega (arith, count, c.requires.within) in
    rw (valid, fields) (long_slice c.args.r.start c.args.r.end bs cs c.requires.ordered inside c.self.invariant)

pub Structs::slice-returns : goal.Structs::slice-returns
Structs::slice-returns t c =
    let bs = c.self.inside.valid.items in
    let cells = c.self.inside.fields.items in
    let cs = map vals_in cells in
    let count : length c.args.self.now.items ≡ length bs = structs_count (deepest cells) cs bs c.args.self.now c.self.view_is in
    let valid : c.in_ok-valid.valid.items ≡ slice_range bs c.args.r.start c.args.r.end = search (rules, c.in_ok-valid.ensures, c.as_slice.ensures.value) in
    let items = c.deref-field-items.result.now in
    let same : items ≡ cells = c.deref-field-items.ensures.value in
    let done : length items ≤ c.loop-field.field-index = search (rules, c.loop-field-test.false) in
    let fields : map vals_in c.loop-field.fields.items ≡ map (λ (z : List Val). slice_range z c.args.r.start c.args.r.end) cs =
    columns_done (λ (z : List Cells). map (λ (z : List Val). slice_range z c.args.r.start c.args.r.end) (map vals_in z)) items c.loop-field.field-index (map vals_in c.loop-field.fields.items)
    (map (λ (z : List Val). slice_range z c.args.r.start c.args.r.end) (map vals_in items)) refl done c.loop-field.invariant ∙ (λ i. map (λ (z : List Val). slice_range z c.args.r.start c.args.r.end) (map vals_in (same i))) in
    let inside : c.args.r.end ≤ length bs = omega (arith, count, c.requires.within) in
    c.new.ensures ∙ (λ i. typed struct_of (rows_of (length (valid i)) (fields i)) (valid i))
    ∙ structs_slice c.args.r.start c.args.r.end bs cs c.requires.ordered inside ∙ (λ i. slice_range (c.self.view_is i).items c.args.r.start c.args.r.end)
