use borrow.Author.Rules.{rules}
use Rattle.std.proofs.Common.{◌≡◌, ◌++◌, ◌+◌, Bool, List, [], ℕ, length, map, ap, sym, ◌∙◌}
use Rattle.std.proofs.lemmas.List.{length-append}
use Rattle.std.specs.Vec.Iter.{into_iter_items, into_iter_len}
use Rattle.scan_values.specs.Val.{Val}
use Rattle.scan_columns.specs.Cells.{vals_in}
use Rattle.scan_columns.specs.Typed.{typed}
use Rattle.scan_columns.specs.Nested.{total, cuts, list_of, struct_of, rows_of}
use Rattle.scan_columns.proofs.NestedLemmas.{lists_append, total_append}
use Rattle.scan_columns.proofs.StructLemmas.{extended, structs_append, long_extended, extend_done, as_many, none_left}
use Rattle.scan_columns.proofs.cells.+append.Goals as goal

pub Lists::append-new-requires-2-clause-whole : goal.Lists::append-new-requires-2-clause-whole
Lists::append-new-requires-2-clause-whole t c =
    let ns = c.self.inside.ends in
    let ks = c.other.inside.ends in
    let es = vals_in c.self.inside.elements.value in
    let fs = vals_in c.other.inside.elements.value in
    let ends : c.in_ok-ends.ends ≡ ns ++ ks = search (rules, c.in_ok-ends.ensures) in
    let made : vals_in c.in_ok-elements.elements ≡ es ++ fs = search (rules, c.in_ok-elements.ensures, c.into_inner.ensures, c.into_inner-2.ensures) in
    let boxed : c.in_ok-new.field-0.value ≡ c.in_ok-elements.elements = search (rules, c.in_ok-new.ensures.ok) in
    ap total (c.ends-2.view_is ∙ ends) ∙ total_append ns ks ∙ (λ i. c.self.invariant.1 i + c.other.invariant.1 i) ∙ sym (length-append es fs) ∙ ap length (sym made) ∙ ap (λ x. length (vals_in x)) (sym boxed)

pub Lists::append-returns : goal.Lists::append-returns
Lists::append-returns t c =
    let ns = c.self.inside.ends in
    let ks = c.other.inside.ends in
    let es = vals_in c.self.inside.elements.value in
    let fs = vals_in c.other.inside.elements.value in
    let bs = c.self.inside.valid.items in
    let cs = c.other.inside.valid.items in
    let ends : c.in_ok-ends.ends ≡ ns ++ ks = search (rules, c.in_ok-ends.ensures) in
    let made : vals_in c.in_ok-elements.elements ≡ es ++ fs = search (rules, c.in_ok-elements.ensures, c.into_inner.ensures, c.into_inner-2.ensures) in
    let boxed : c.in_ok-new.field-0.value ≡ c.in_ok-elements.elements = search (rules, c.in_ok-new.ensures.ok) in
    let elements : vals_in c.in_ok-new.field-0.value ≡ es ++ fs = ap vals_in boxed ∙ made in
    let valid : c.extend_from_slice.new.self.items ≡ bs ++ cs = search (rules, c.in_ok-extend_from_slice.ensures.items) in
    c.new-2.ensures
    ∙ ap (λ (z : List ℕ). typed list_of (cuts z (vals_in c.in_ok-new.field-0.value)) c.extend_from_slice.new.self.items) (c.ends-2.view_is ∙ ends)
    ∙ ap (λ (z : List Val). typed list_of (cuts (ns ++ ks) z) c.extend_from_slice.new.self.items) elements
    ∙ ap (λ (z : List Bool). typed list_of (cuts (ns ++ ks) (es ++ fs)) z) valid
    ∙ lists_append ns ks es fs bs cs c.self.invariant.0 c.self.invariant.1
    ∙ (λ i. (c.self.view_is i).items ++ (c.other.view_is i).items)

pub Structs::append-new-requires : goal.Structs::append-new-requires
Structs::append-new-requires t c =
    let bs = c.self.inside.valid.items in
    let es = c.other.inside.valid.items in
    let cells = c.self.inside.fields.items in
    let others = c.other.inside.fields.items in
    let valid : c.extend_from_slice.new.self.items ≡ bs ++ es = search (rules, c.in_ok-extend_from_slice.ensures.items) in
    let first : into_iter_items c.into_iter-field-iterator.result ≡ cells = c.into_iter-field-iterator.ensures.into_iter_gives.0 in
    let second : into_iter_items c.into_iter-rest.result ≡ others = search (rules, c.into_iter-rest.ensures.rest) in
    let even = as_many (into_iter_items c.into_iter-field-iterator.result) (into_iter_items c.into_iter-rest.result) cells others first second c.loop-field.invariant.count in
    let none : into_iter_items c.loop-field.field-iterator ≡ [] = none_left (into_iter_items c.loop-field.field-iterator) (into_iter_len c.loop-field.field-iterator) c.loop-field.invariant.len c.in-None.ensures.steps.0 in
    let fields : map vals_in c.loop-field.made.items ≡ extended (map vals_in cells) (map vals_in others) =
    extend_done (into_iter_items c.loop-field.field-iterator) (into_iter_items c.loop-field.rest) c.loop-field.made.items (extended (map vals_in (into_iter_items c.into_iter-field-iterator.result)) (map vals_in (into_iter_items c.into_iter-rest.result))) none c.loop-field.invariant.fields
    ∙ (λ i. extended (map vals_in (first i)) (map vals_in (second i))) in
    rw (valid, fields, length-append bs es) (long_extended (length bs) (length es) (map vals_in cells) (map vals_in others) c.self.invariant c.other.invariant)

pub Structs::append-returns : goal.Structs::append-returns
Structs::append-returns t c =
    let bs = c.self.inside.valid.items in
    let es = c.other.inside.valid.items in
    let cells = c.self.inside.fields.items in
    let others = c.other.inside.fields.items in
    let valid : c.extend_from_slice.new.self.items ≡ bs ++ es = search (rules, c.in_ok-extend_from_slice.ensures.items) in
    let first : into_iter_items c.into_iter-field-iterator.result ≡ cells = c.into_iter-field-iterator.ensures.into_iter_gives.0 in
    let second : into_iter_items c.into_iter-rest.result ≡ others = search (rules, c.into_iter-rest.ensures.rest) in
    let even = as_many (into_iter_items c.into_iter-field-iterator.result) (into_iter_items c.into_iter-rest.result) cells others first second c.loop-field.invariant.count in
    let none : into_iter_items c.loop-field.field-iterator ≡ [] = none_left (into_iter_items c.loop-field.field-iterator) (into_iter_len c.loop-field.field-iterator) c.loop-field.invariant.len c.in-None.ensures.steps.0 in
    let fields : map vals_in c.loop-field.made.items ≡ extended (map vals_in cells) (map vals_in others) =
    extend_done (into_iter_items c.loop-field.field-iterator) (into_iter_items c.loop-field.rest) c.loop-field.made.items (extended (map vals_in (into_iter_items c.into_iter-field-iterator.result)) (map vals_in (into_iter_items c.into_iter-rest.result))) none c.loop-field.invariant.fields
    ∙ (λ i. extended (map vals_in (first i)) (map vals_in (second i))) in
    c.new.ensures ∙ (λ i. typed struct_of (rows_of (length (valid i)) (fields i)) (valid i))
    ∙ structs_append bs es (map vals_in cells) (map vals_in others) c.self.invariant even ∙ (λ i. (c.self.view_is i).items ++ (c.other.view_is i).items)
