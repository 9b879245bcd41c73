use Rattle.std.proofs.Common.{◌+◌, ◌∷◌, drop, get_or, sym, ap, ◌∙◌, arith}
use Rattle.std.specs.Prelude.{option_map}
use Rattle.std.proofs.lemmas.List.{drop_all}
use Rattle.csv.specs.Records.{fields_of}
use Rattle.scan_values.specs.FieldLists.{dtypes_of}
use Rattle.scan_values.specs.Values.{val_of}
use Rattle.scan_import.specs.Cells.{cells_in}
use Rattle.scan_import.proofs.Columns.{cells_next, cells_past}
use Rattle.scan_import.proofs.Meant.{count_step, meant_all, meant_step, meant_stop, number_at}
use Rattle.scan_import.proofs.csv_rows.cells_value.Goals as goal

pub returns-in-None : goal.returns-in-None
returns-in-None c =
    let ds = dtypes_of c.args.fields.now in
    let cs = c.args.columns.now in
    let cells = fields_of c.args.row.now in
    let i = c.loop-i.i in
    meant_stop val_of c.loop-i.values.items i (cells_in (drop i ds) (drop i cs) cells) (cells_in (drop (i + 1) ds) (drop (i + 1) cs) cells) _
    (cells_next ds cs cells i c.dtype_at-dtype.result.now (get_or cs i 0) c.dtype_at-dtype.ensures (number_at cs i (omega arith))
    ∙ ap (λ o. o ∷ cells_in (drop (i + 1) ds) (drop (i + 1) cs) cells) (sym c.in_ok-found.ensures ∙ ap (option_map val_of) c.in-None.is))
    c.loop-i.invariant.same c.loop-i.invariant.count

pub loop-i-preserved : goal.loop-i-preserved
loop-i-preserved c =
    let ds = dtypes_of c.args.fields.now in
    let cs = c.args.columns.now in
    let cells = fields_of c.args.row.now in
    let i = c.loop-i.i in
    record {
      same = meant_step val_of c.loop-i.values.items c.push.new.self.items c.in-Some.value _ (cells_in (drop i ds) (drop i cs) cells) (cells_in (drop (i + 1) ds) (drop (i + 1) cs) cells) _
          c.in_ok-push-in-Some.ensures.items (ap (option_map val_of) (sym c.in-Some.is) ∙ c.in_ok-found.ensures)
          (cells_next ds cs cells i c.dtype_at-dtype.result.now (get_or cs i 0) c.dtype_at-dtype.ensures (number_at cs i (omega arith))) c.loop-i.invariant.same;
      count = count_step c.loop-i.values.items c.push.new.self.items c.in-Some.value i c.in_ok-push-in-Some.ensures.items c.loop-i.invariant.count;
    }

pub returns : goal.returns
returns c =
    let ds = dtypes_of c.args.fields.now in
    let cs = c.args.columns.now in
    let cells = fields_of c.args.row.now in
    let i = c.loop-i.i in
    meant_all val_of c.loop-i.values.items (cells_in (drop i ds) (drop i cs) cells) _ (cells_past (drop i ds) (drop i cs) cells (drop_all i cs (omega arith))) c.loop-i.invariant.same
