-- What places are and what is given at them.
use Rattle.std.specs.Prelude.{◌≡◌, ℕ, List, true, None, Some, map, Option}
use Rattle.std.specs.List.{slice_get}
use Rattle.scan_values.specs.DataType.{DataType}
use Rattle.scan_values.specs.Marked.{Marked, lost}
use Rattle.scan_expr.specs.Bound.{Bound}
use Rattle.scan_expr.specs.Eval.{eval}
use Rattle.scan_expr.specs.Expr.{Expr}
use Rattle.scan_expr.specs.declared.request.ScanRequest.{ScanRequest}
use Rattle.scan_values.specs.declared.selection.Selection.TheVariants as rows
use Rattle.scan_layout.specs.RowValue.{row_value}
use Rattle.scan_opener.specs.Opener.{Given, skip, layout_of}
use Rattle.scan_segments.specs.Source.{Store}
use Rattle.scan_multi.specs.Answer.{ToldFile}
use Rattle.scan_places.specs.Walks.{GivesRow}
use Rattle.scan_places.specs.declared.place.Place.{Place}

-- a request for a projection of all rows: what a look-up may ask for lies within what this names
abbrev pub row_request : Expr → ScanRequest
row_request e = record {
  projection = e;
  filter = None;
  row_range = None;
  selection = rows.All;
  partition_selection = rows.All;
  partition_range = None;
  ordered = true;
  limit = None;
}

-- the value of an expression at a row of what an opener gives; of a file that is skipped there is none
abbrev pub value_in : Bound → Store → ℕ → Given → Marked
value_in e store row skip = lost
value_in e store row (layout_of l) = eval e.scope e.expr (row_value l store row) row

abbrev pub value_of : Bound → ℕ → Option ToldFile → Marked
value_of e row None = lost
value_of e row (Some f) = value_in e f.store row f.given

-- the values of an expression at places of files, place by place
abbrev pub reply_to : Bound → List ToldFile → List Place → List Marked
reply_to e files places = map (λ (p : Place). value_of e p.row (slice_get files p.file)) places

-- there is a row at a place
abbrev pub IsThere : DataType → List ToldFile → Place → Type 0
IsThere d files p = (f : ToldFile) × (slice_get files p.file ≡ Some f) × GivesRow d p.row f.given
