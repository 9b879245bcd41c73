use Rattle.std.proofs.Common.{◌≡◌, List, ℕ, Option, map, sym, ap, ◌∙◌, subst}
use Rattle.std.specs.Prelude.{IfSome, string_bytes}
use Rattle.scan_values.specs.DataType.{Name, DataType, fields_of}
use Rattle.scan_values.specs.Val.{Val}
use Rattle.scan_values.specs.Values.{val_of}
use Rattle.scan_import.specs.JsonLines.{AreLinesOf, IsJsonLinesOf}
use Rattle.scan_import.proofs.Columns.{if_told}
use Rattle.scan_import.proofs.Jsons.{fields_listed}
use Rattle.scan_import.proofs.json_rows.rows_of_json.Goals as goal

pub returns-clause-dtype : goal.returns-clause-dtype
returns-clause-dtype g c = ap (λ a. a.dtype) c.in_ok-array.ensures

pub returns-clause-rows : goal.returns-clause-rows
returns-clause-rows g c =
    let fs = c.in-Some.fields.now in
    if_told (g.R.Read.remaining c.args.input) (λ bytes. IsJsonLinesOf c.args.dtype.now bytes c.in_ok-array.array.items) (λ bytes e.
    let told = subst (λ (o : Option (List ℕ)). IfSome o (λ xs. string_bytes c.in-Ok.text ≡ xs)) e c.in-Ok.ensures in
    let lines = subst (λ (t : List ℕ). AreLinesOf fs t (map val_of c.in_ok-rows.rows.items)) (c.as_str.ensures.value ∙ told) c.in_ok-rows.ensures in (
      fields_of fs,
      sym c.in-Some.ensures,
      subst (λ (l : List (Name × DataType)). AreLinesOf l bytes c.in_ok-array.array.items) (sym (fields_listed fs))
          (subst (λ (vs : List Val). AreLinesOf fs bytes vs) (sym (ap (λ a. a.items) c.in_ok-array.ensures)) lines),
    ))
