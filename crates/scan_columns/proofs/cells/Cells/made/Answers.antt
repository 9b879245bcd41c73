use borrow.Author.Rules.{rules}
use Rattle.std.proofs.Common.{◌≡◌, ◌++◌, ◌+◌, [], ◌∷◌, map, slice_range, ap, sym, ◌∙◌, refl}
use Rattle.scan_values.specs.Values.{val_of}
use Rattle.scan_columns.specs.Cells.{vals_in}
use Rattle.scan_columns.proofs.FieldLemmas.{one_popped}
use Rattle.scan_columns.proofs.cells.Cells.made.Goals as goal

pub returns-in-Some : goal.returns-in-Some
returns-in-Some c =
    let vs = vals_in c.args.self.now in
    let i = c.args.i in
    let part : vals_in c.in_ok-slice.field-0 ≡ slice_range vs i (i + 1) = search (rules, c.in_ok-slice.ensures) in
    let values : map val_of c.in_ok-values.values.items ≡ vals_in c.in_ok-slice.field-0 = search (rules, c.in_ok-values.ensures) in
    let popped : c.in_ok-values.values.items ≡ c.pop.new.self.items ++ (c.in-Some.value ∷ []) = search (rules, c.in-Some.ensures.items) in
    one_popped vs i (i + 1) c.pop.new.self.items c.in-Some.value c.requires refl (ap (map val_of) (sym popped) ∙ values ∙ part)
