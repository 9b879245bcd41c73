use borrow.Author.Rules.{rules}
use Rattle.std.proofs.Common.{◌≡◌, List, true, length, map, sym, subst, ◌∙◌}
use Rattle.scan_values.specs.Val.{Val, vals_of, marked_all}
use Rattle.scan_values.specs.Fits.{fits_all}
use Rattle.scan_columns.specs.Cells.{vals_in}
use Rattle.scan_columns.specs.Typed.{typed}
use Rattle.scan_columns.specs.Nested.{rows_of, struct_of}
use Rattle.scan_columns.specs.Parts.{bits_of, AllFitting, items_of}
use Rattle.scan_columns.proofs.PartLemmas.{structs_fit}
use Rattle.scan_columns.proofs.column.Column.structs.Goals as goal

pub of_fitting-requires : goal.of_fitting-requires
of_fitting-requires c =
    let v = c.args.validity in
    let d = c.args.dtype.value in
    let cs = c.args.fields.items in
    let valid : c.in_ok-valid.valid.items ≡ bits_of v c.args.len = search (rules, c.in_ok-valid.ensures) in
    let fields : map vals_in c.in_ok-fields.fields.items ≡ map items_of cs = search (rules, c.in_ok-fields.ensures.items) in
    let fit : AllFitting cs = search (rules, c.in_ok-fields.ensures.fit) in
    let made : c.new.result.items ≡ typed struct_of (rows_of (length (bits_of v c.args.len)) (map items_of cs)) (bits_of v c.args.len) = c.new.ensures ∙ (λ i. typed struct_of (rows_of (length (valid i)) (fields i)) (valid i)) in
    subst (λ (vs : List Val). fits_all (marked_all (vals_of vs)) d ≡ true) (sym made) (structs_fit v c.args.len cs d c.requires.validity c.requires.length c.requires.fields fit)
