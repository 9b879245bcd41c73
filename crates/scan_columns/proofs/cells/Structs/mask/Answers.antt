use borrow.Author.Rules.{rules}
use Rattle.std.proofs.Common.{◌≡◌, List, ℕ, length, map, ap, sym, subst, ◌∙◌}
use Rattle.scan_values.specs.Val.{Val}
use Rattle.scan_values.specs.Masks.{both_true, null_where_false}
use Rattle.scan_columns.specs.Cells.{vals_in, deepest}
use Rattle.scan_columns.specs.Typed.{typed}
use Rattle.scan_columns.specs.Nested.{AreLong, struct_of, rows_of}
use Rattle.scan_columns.proofs.TypedLemmas.{both_lengths}
use Rattle.scan_columns.proofs.NestedLemmas.{structs_count, structs_mask}
use Rattle.scan_columns.proofs.cells.Structs.mask.Goals as goal

pub both-requires : goal.both-requires
both-requires c =
    let bs = c.self.inside.valid.items in
    let cells = c.self.inside.fields.items in
    let count : length c.args.self.now.items ≡ length bs = structs_count (deepest cells) (map vals_in cells) bs c.args.self.now c.self.view_is in
    ap length c.as_slice-2.ensures ∙ c.requires ∙ count ∙ ap length (sym c.as_slice.ensures.value)

pub new-requires : goal.new-requires
new-requires c =
    let bs = c.self.inside.valid.items in
    let cells = c.self.inside.fields.items in
    let m = c.args.m.now in
    let count : length c.args.self.now.items ≡ length bs = structs_count (deepest cells) (map vals_in cells) bs c.args.self.now c.self.view_is in
    let valid : c.in_ok-valid.valid.items ≡ both_true bs m = search (rules, c.in_ok-valid.ensures) in
    let fields : map vals_in c.in_ok-fields.fields.items ≡ map vals_in cells = search (rules, c.in_ok-fields.ensures) in
    let same : length bs ≡ length c.in_ok-valid.valid.items = sym (ap length valid ∙ both_lengths bs m (c.requires ∙ count)) in
    subst (λ (z : List (List Val)). AreLong (length c.in_ok-valid.valid.items) z) (sym fields) (subst (λ (n : ℕ). AreLong n (map vals_in cells)) same c.self.invariant)

pub returns : goal.returns
returns c =
    let bs = c.self.inside.valid.items in
    let cells = c.self.inside.fields.items in
    let m = c.args.m.now in
    let count : length c.args.self.now.items ≡ length bs = structs_count (deepest cells) (map vals_in cells) bs c.args.self.now c.self.view_is in
    let valid : c.in_ok-valid.valid.items ≡ both_true bs m = search (rules, c.in_ok-valid.ensures) in
    let fields : map vals_in c.in_ok-fields.fields.items ≡ map vals_in cells = search (rules, c.in_ok-fields.ensures) in
    c.new.ensures ∙ (λ i. typed struct_of (rows_of (length (valid i)) (fields i)) (valid i)) ∙ structs_mask (map vals_in cells) bs m (c.requires ∙ count) ∙ (λ i. null_where_false m (c.self.view_is i).items)
