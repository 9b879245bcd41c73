-- What a builder of a scan keeps.
use Rattle.std.specs.Prelude.{◌≡◌, ℕ, Bool, true, List, [], ◌∷◌, Option, Some, None, IfSome, map, option_map}
use Rattle.std.specs.Borrow.{Bor}
use Rattle.std.specs.declared.alloc.Global.{Global}
use Rattle.std.specs.declared.ops.Range.{Range}
use Rattle.std.specs.declared.sync.Arc.{Arc}
use Rattle.std.specs.declared.vec.Vec.{Vec}
use Rattle.scan_values.specs.DataType.{DataType}
use Rattle.scan_values.specs.Fits.{is_bool_type}
use Rattle.scan_values.specs.StrictSorted.{is_rising}
use Rattle.scan_values.specs.declared.field_path.FieldMask.{FieldMask}
use Rattle.scan_values.specs.declared.selection.Selection.{Selection}
use Rattle.scan_expr.specs.Bound.{Bound, bound_conjuncts}
use Rattle.scan_expr.specs.Infer.{infer}
use Rattle.scan_partition.specs.Partable.{IsPartable}
use Rattle.scan_readers.specs.Readers.{ReaderState}
use Rattle.scan_core.specs.Boundaries.{boundaries, has_ends}
use Rattle.scan_core.specs.FieldMasks.{scan_paths, firsts, path_mask}
use Rattle.scan_core.specs.SplitRanges.{rows}
use Rattle.scan_core.specs.declared.split_by.SplitBy.{SplitBy}

-- the reader of the rows; what is given of them, and where it is true; in which order, of which rows, and of which that
-- are selected; the number of the first row; where the rows are split, and where instead; how many are given at most,
-- and how many splits are in progress at once; and what is made of each array
pub record BuilderData (R M : Type 0) : Type 0 where
  pub reader : R
  pub projection : Bound
  pub filter : Option Bound
  pub ordered : Bool
  pub range : Option (Range ℕ)
  pub selection : Selection
  pub offset : ℕ
  pub split_by : SplitBy
  pub natural : Option (List ℕ)
  pub limit : Option ℕ
  pub concurrency : ℕ
  pub step : M

-- shared boundaries, where there are any
abbrev pub boundaries_in : Option (Arc (Vec ℕ Global) Global) → Option (List ℕ)
boundaries_in = option_map (λ a. a.value.items)

-- an expression is bound over a dtype
pub record IsOver (d : DataType) (e : Bound) : Type 0 where
  pub scope : e.scope ≡ d
  pub bound : IsPartable e

-- so is a filter, which is Bool
pub record IsFilter (d : DataType) (e : Bound) : Type 0 where
  pub over : IsOver d e
  pub bool : is_bool_type (infer e.scope e.expr) ≡ true

-- each of several
abbrev pub AreFilters : DataType → List Bound → Type 0
AreFilters d [] = Unit {0}
AreFilters d (e ∷ es) = IsFilter d e × AreFilters d es

-- a filter that is lent
abbrev pub lent_filter : Option (Bor Bound) → Option Bound
lent_filter = option_map (λ f. f.now)

-- boundaries rise from a row to another
pub record AreBoundaries (start end : ℕ) (bs : List ℕ) : Type 0 where
  pub rising : is_rising bs ≡ true
  pub ends : has_ends start end bs ≡ true

-- the expressions are over the reader's rows, whose natural boundaries are those of all rows
pub record IsBuilder (s : ReaderState) (projection : Bound) (filter : Option Bound) (natural : Option (List ℕ)) : Type 0 where
  pub over : IsOver s.dtype projection
  pub passes : IfSome filter (IsFilter s.dtype)
  pub splits : IfSome natural (AreBoundaries 0 s.rows)

-- the conjuncts of a filter; no filter has none
abbrev pub conjuncts_in : Option Bound → List Bound
conjuncts_in None = []
conjuncts_in (Some e) = bound_conjuncts e

-- a range, or all of so many rows
abbrev pub range_or_all : Option (Range ℕ) → ℕ → Range ℕ
range_or_all None n = rows 0 n
range_or_all (Some r) n = r

-- the fields that a projection and a filter ask for
abbrev pub asked_masks : Bound → Option Bound → List FieldMask
asked_masks p f = map path_mask (firsts (scan_paths p f))

-- the natural boundaries, or those of a range or all by what it is split by
abbrev pub chosen_points : ReaderState → SplitBy → List FieldMask → Option (Range ℕ) → Option (List ℕ) → List ℕ
chosen_points s by masks r (Some bs) = bs
chosen_points s by masks r None = boundaries by s masks (range_or_all r s.rows)
