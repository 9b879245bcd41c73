-- What a look-up of one row concludes, in its own words.
use Rattle.std.specs.Prelude.{◌≡◌, ℕ, ◌<◌, List, [], ◌∷◌, true, Option, None, Some, Any, slice_get}
use Rattle.vortex_scan.specs.Values.DataType.{DataType}
use Rattle.vortex_scan.specs.Values.Val.{Val, marked}
use Rattle.vortex_scan.specs.Values.declared.selection.Selection.TheVariants.{All, IncludeByIndex}
use Rattle.vortex_scan.specs.Expr.Eval.{eval}
use Rattle.vortex_scan.specs.Expr.Expr.{Expr, filter_conjuncts}
use Rattle.vortex_scan.specs.Expr.declared.request.ScanRequest.{ScanRequest}
use Rattle.vortex_scan.specs.Segments.Source.{Store}
use Rattle.vortex_scan.specs.Layout.Layout.{Layout, rows_of}
use Rattle.vortex_scan.specs.Layout.RowValue.{row_value}
use Rattle.vortex_scan.specs.Opener.Opener.{Given, skip, layout_of}
use Rattle.vortex_scan.specs.Multi.Answer.{ToldFile, drops}
use Rattle.vortex_scan.specs.Multi.Output.{ChunkData}

-- a request for one row, where the filter keeps it
abbrev pub row_request : Expr → Option Expr → ℕ → ScanRequest
row_request e filter row = record {
  projection = e;
  filter = filter;
  row_range = None;
  selection = IncludeByIndex (row ∷ []);
  partition_selection = All;
  partition_range = None;
  ordered = true;
  limit = None;
}

-- the first value of the first chunk
abbrev pub first_value : List ChunkData → Option Val
first_value [] = None
first_value (c ∷ cs) = slice_get c.values.items 0

-- a conjunct of the filter is false or null at a row of a layout over a store
abbrev pub IsDropped : DataType → Option Expr → ℕ → Layout → Store → Type 0
IsDropped d filter row l store = Any (λ e. drops (eval d e (row_value l store row) row) ≡ true) (filter_conjuncts filter)

-- A row of a layout over a store: it is there, the filter does not drop it, and the expression has this value at it.
pub record HasValue (d : DataType) (e : Expr) (filter : Option Expr) (row : ℕ) (l : Layout) (store : Store) (v : Val) : Type 0 where
  pub there : row < rows_of l
  pub kept : IsDropped d filter row l store → ⊥
  pub value : eval d e (row_value l store row) row ≡ marked v

-- what is looked up in what a file's opener gives: its value at the row, or none where it has no such row or drops it
abbrev pub IsLookedUpIn : DataType → Expr → Option Expr → ℕ → Store → Option Val → Given → Type 0
IsLookedUpIn d e filter row store v skip = v ≡ None
IsLookedUpIn d e filter row store None (layout_of l) = row < rows_of l → IsDropped d filter row l store
IsLookedUpIn d e filter row store (Some v) (layout_of l) = HasValue d e filter row l store v

-- what is looked up at a row of a file that tells
abbrev pub IsLookedUp : DataType → Expr → Option Expr → ℕ → Option Val → ToldFile → Type 0
IsLookedUp d e filter row v f = IsLookedUpIn d e filter row f.store v f.given
