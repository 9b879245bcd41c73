use Rattle.std.proofs.Common.{List, ℕ, length, map, sym, ap, ◌∙◌, subst}
use Rattle.scan_values.specs.DataType.{Name, DataType, fields_of}
use Rattle.scan_values.specs.FieldLists.{names_of, dtypes_of}
use Rattle.scan_values.specs.Val.{Val}
use Rattle.scan_values.specs.Values.{val_of}
use Rattle.scan_import.specs.Csv.{AreColumns, AreRowsOf, IsCsv, IsCsvOf}
use Rattle.scan_import.proofs.Columns.{columns_even, if_told}
use Rattle.scan_import.proofs.Jsons.{fields_listed}
use Rattle.scan_import.proofs.csv_rows.rows_of_csv.Goals as goal

pub rows_left-requires-clause-even : goal.rows_left-requires-clause-even
rows_left-requires-clause-even g c =
    ap length c.as_slice-2.ensures.value ∙ columns_even c.in-Some.fields.now c.as_slice.result.now c.in_ok-columns.columns.items c.in_ok-columns.ensures.ok

pub returns-clause-dtype : goal.returns-clause-dtype
returns-clause-dtype g c = ap (λ a. a.dtype) c.in_ok-array.ensures

pub returns-clause-rows : goal.returns-clause-rows
returns-clause-rows g c =
    let fs = c.in-Some.fields.now in
    let names = c.in_ok-names.names.items in
    let cs = c.in_ok-columns.columns.items in
    let stand = subst (λ (n : List Name). AreColumns (names_of fs) n cs) c.as_slice.ensures.value c.in_ok-columns.ensures.ok in
    if_told (g.R.Read.remaining c.args.input) (λ bytes. IsCsvOf c.args.dtype.now bytes c.in_ok-array.array.items) (λ bytes e.
    let was = c.in_ok-names.ensures.read bytes (c.reader_of-reader.ensures.fresh bytes e) in
    let left = c.in_ok-rows.ensures bytes names was in
    let rows = subst (λ (k : List ℕ). AreRowsOf (dtypes_of fs) k bytes names (map val_of c.in_ok-rows.rows.items)) c.as_slice-2.ensures.value left in (
      fields_of fs,
      sym c.in-Some.ensures,
      subst (λ (l : List (Name × DataType)). IsCsv l bytes c.in_ok-array.array.items) (sym (fields_listed fs)) (record {
        names = names;
        columns = cs;
        stand = stand;
        rows_of = subst (λ (vs : List Val). AreRowsOf (dtypes_of fs) cs bytes names vs) (sym (ap (λ a. a.items) c.in_ok-array.ensures)) rows;
      }),
    ))
