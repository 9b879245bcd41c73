use borrow.Author.Rules.{rules}
use Rattle.std.proofs.Common.{◌≡◌, true, length, map, replicate, ◌∙◌}
use Rattle.std.proofs.lemmas.List.{length-replicate}
use Rattle.scan_columns.specs.Cells.{vals_in}
use Rattle.scan_columns.specs.Nested.{struct_of, rows_of}
use Rattle.scan_columns.specs.Typed.{typed}
use Rattle.scan_columns.proofs.RowLemmas.{structs_all}
use Rattle.scan_columns.proofs.rows.structs_of.Goals as goal

pub returns : goal.returns
returns c =
    let n = c.args.len in
    let columns = map vals_in c.args.columns.items in
    let bits : c.in_ok-valid.valid.items ≡ replicate n true = search (rules, c.in_ok-valid.ensures) in
    c.new.ensures ∙ (λ i. typed struct_of (rows_of (length (bits i)) columns) (bits i)) ∙ structs_all n (length (replicate n true)) columns (length-replicate n true) c.requires
