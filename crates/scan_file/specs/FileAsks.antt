-- What a scan asks of each of its files.
use Rattle.std.specs.Prelude.{◌≤◌, ℕ, List, ◌∷◌, Option, IfSome, refl}
use Rattle.std.specs.Coded.{Coded, code_by, coded×, coded_option}
use Rattle.std.specs.declared.ops.Range.{Range}
use Rattle.scan_values.specs.DataType.{DataType}
use Rattle.scan_values.specs.declared.selection.Selection.{Selection}
use Rattle.scan_expr.specs.Bound.{Bound, bound_code, exprs_of}
use Rattle.scan_expr.specs.Expr.{Expr}
use Rattle.scan_expr.specs.Infer.{infer}
use Rattle.scan_partition.specs.Partable.{IsPartable}
use Rattle.scan_core.specs.BuilderData.{IsFilter, conjuncts_in}
use Rattle.scan_core.specs.ScanCode.{range_code, selection_code}

-- what is given of their rows, and where it is true, of which rows, and of which of these that are selected
pub record FileAsk : Type 0 where
  pub projection : Bound
  pub filter : Option Bound
  pub range : Option (Range ℕ)
  pub selection : Selection

-- these four as what is asked
abbrev pub file_ask : Bound → Option Bound → Option (Range ℕ) → Selection → FileAsk
file_ask e f r s = record { projection = e; filter = f; range = r; selection = s }

-- how it is kept
abbrev pub ask_code : Coded FileAsk
ask_code =
    code_by (Bound × (Option Bound × (Option (Range ℕ) × Selection)))
    (coded× bound_code (coded× (coded_option bound_code) (coded× (coded_option range_code) selection_code)))
    (λ a. (a.projection, (a.filter, (a.range, a.selection))))
    (λ p. record { projection = p.0; filter = p.1.0; range = p.1.1.0; selection = p.1.1.1 }) (λ _. refl)

-- the dtype of the files
abbrev pub asked_dtype : FileAsk → DataType
asked_dtype a = (a.projection).scope

-- the dtype of what is given
abbrev pub given_dtype : FileAsk → DataType
given_dtype a = infer (a.projection).scope (a.projection).expr

-- the filter is over the dtype of the projection, and Bool; the range is not reversed
pub record IsAsk (a : FileAsk) : Type 0 where
  pub bound : IsPartable a.projection
  pub filter : IfSome a.filter (IsFilter (asked_dtype a))
  pub range : IfSome a.range (λ r. r.start ≤ r.end)

-- the conjuncts of the filter
abbrev pub ask_conjuncts : FileAsk → List Bound
ask_conjuncts a = conjuncts_in a.filter

-- what is evaluated
abbrev pub ask_exprs : FileAsk → List Expr
ask_exprs a = exprs_of (a.projection ∷ ask_conjuncts a)
