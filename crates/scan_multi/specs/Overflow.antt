-- Where the expressions of a request overflow in a file.
use Rattle.std.specs.Prelude.{◌≡◌, ℕ, ◌<◌, ◌≤◌, Bool, true, false, Contains, map}
use Rattle.std.specs.List.{list_all}
use Rattle.scan_values.specs.DataType.{DataType}
use Rattle.scan_values.specs.Marked.{Marked, lost, null, gone, boolean, integer, text, list, struct}
use Rattle.scan_values.specs.Selections.{picked_rows}
use Rattle.scan_expr.specs.Eval.{eval}
use Rattle.scan_expr.specs.Overflow.{overflows}
use Rattle.scan_expr.specs.Expr.{Expr, filter_conjuncts}
use Rattle.scan_expr.specs.declared.request.ScanRequest.{ScanRequest}
use Rattle.scan_segments.specs.Source.{Store}
use Rattle.scan_layout.specs.Layout.{Layout, rows_of}
use Rattle.scan_layout.specs.RowValue.{row_value}
use Rattle.scan_opener.specs.Opener.{Given, skip, layout_of}
use Rattle.scan_multi.specs.Answer.{is_good}
use Rattle.scan_multi.specs.Named.{read_spans}

-- a value of a conjunct is true
abbrev pub is_true : Marked → Bool
is_true lost = false
is_true null = false
is_true gone = false
is_true (boolean b) = b
is_true (integer z) = false
is_true (text s) = false
is_true (list ms) = false
is_true (struct ms) = false

-- whether every conjunct is true at a row
abbrev pub passes : DataType → ScanRequest → Layout → Store → ℕ → Bool
passes d request l store i = list_all is_true (map (λ e. eval d e (row_value l store i) i) (filter_conjuncts request.filter))

-- a conjunct overflows at a row that is read, or the projection at a picked row at which every conjunct is true
pub data MayOverflow (d : DataType) (request : ScanRequest) (l : Layout) (store : Store) : Type 0 where
  of_conjunct : (span : ℕ × ℕ) (e : Expr) (i : ℕ) → Contains (read_spans d request l) span → span.0 ≤ i → i < span.1
      → Contains (filter_conjuncts request.filter) e → overflows d e (row_value l store i) i ≡ true → MayOverflow d request l store
  of_projection : (i : ℕ) → Contains (picked_rows request.row_range request.selection (rows_of l)) i
      → passes d request l store i ≡ true → overflows d request.projection (row_value l store i) i ≡ true → MayOverflow d request l store

-- a file of a good layout in which that happens
abbrev pub OverflowsIn : DataType → ScanRequest → Given → Store → Type 0
OverflowsIn d request skip store = ⊥
OverflowsIn d request (layout_of l) store = (is_good d request l ≡ true) × MayOverflow d request l store
