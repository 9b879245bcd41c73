-- What a file of a layout gives to a scan.
use Rattle.std.specs.Prelude.{ℕ, ◌==◌, Bool, true, false, not, ◌&&◌, ◌||◌, List, [], ◌∷◌, filter, map}
use Rattle.std.specs.List.{flat_map, list_all, list_any}
use Rattle.std.specs.declared.ops.Range.{Range}
use Rattle.scan_values.specs.Marked.{Marked, is_true}
use Rattle.scan_values.specs.Selections.{is_among, numbers, selects}
use Rattle.scan_values.specs.Val.{is_clean}
use Rattle.scan_segments.specs.Source.{Store}
use Rattle.scan_expr.specs.Bound.{Bound}
use Rattle.scan_expr.specs.Eval.{eval}
use Rattle.scan_expr.specs.Needs.{needed_by}
use Rattle.scan_expr.specs.Overflow.{overflows}
use Rattle.scan_layout.specs.Edges.{edges}
use Rattle.scan_layout.specs.Layout.{Layout, rows_of}
use Rattle.scan_spelling.specs.Places.{Place}
use Rattle.scan_layout.specs.RowValue.{row_value}
use Rattle.scan_layout.specs.Touched.{touched}
use Rattle.scan_plans.specs.Wants.{names_id}
use Rattle.scan_readers.specs.Flaws.{has_flaw}
use Rattle.scan_readers.specs.LeafPlans.{layout_state}
use Rattle.scan_readers.specs.Readers.{ReaderState}
use Rattle.scan_readers.specs.RowIdxData.{numbered_state}
use Rattle.scan_core.specs.Boundaries.{cut_rows}
use Rattle.scan_core.specs.BuilderData.{range_or_all}
use Rattle.scan_core.specs.FieldMasks.{firsts, scan_paths}
use Rattle.scan_core.specs.RowRanges.{narrowed}
use Rattle.scan_core.specs.SplitMeaning.{in_turn}
use Rattle.scan_core.specs.SplitRanges.{common, span_of, split_ranges}
use Rattle.scan_drive.specs.Files.{Item, Part}
use Rattle.scan_file.specs.FileAsks.{FileAsk, ask_conjuncts, ask_exprs, asked_dtype, given_dtype}
use Rattle.scan_file.specs.FileRows.{unless_lost}

-- there is a row
abbrev pub is_some_row : List ℕ → Bool
is_some_row [] = false
is_some_row (i ∷ is) = true

-- the rows of a layout, numbered from 0
abbrev pub file_rows : Layout → ReaderState
file_rows l = numbered_state 0 (layout_state [] l)

-- the conjuncts of the filter in the order in which they run: first those over row numbers alone
abbrev pub ask_turn : FileAsk → Layout → List Bound
ask_turn a l = in_turn (file_rows l) (ask_conjuncts a)

module _ (a : FileAsk) (l : Layout) where
  -- the rows of the range, or all
  abbrev pub ask_range : Range ℕ
  ask_range = range_or_all a.range (rows_of l)

  -- where they are split: at the edges of the fields that are used
  abbrev pub split_points : List ℕ
  split_points = cut_rows (is_among (edges l (firsts (scan_paths a.projection a.filter)) ask_range.start ask_range.end)) ask_range

  -- the selected rows of a range
  abbrev pub picks : Range ℕ → List ℕ
  picks r = filter (selects a.selection) (numbers r.start r.end)

  -- the ranges of the splits, up to the last row that is named where rows are named
  abbrev pub file_ranges : List (Range ℕ)
  file_ranges = split_ranges split_points (common a.range (span_of a.selection (rows_of l)))

  -- those with a selected row
  abbrev pub read_ranges : List (Range ℕ)
  read_ranges = filter (λ r. is_some_row (picks r)) file_ranges

  module _ (store : Store) where
    -- the value of an expression in a row, whose number is its index
    abbrev pub row_of : Bound → ℕ → Marked
    row_of e i = eval e.scope e.expr (row_value l store i) i

    -- whether it overflows there
    abbrev pub overflows_in : Bound → ℕ → Bool
    overflows_in e i = overflows e.scope e.expr (row_value l store i) i

    -- each conjunct of the filter is true in a row
    abbrev pub passes : ℕ → Bool
    passes i = list_all (λ c. is_true (row_of c i)) (ask_conjuncts a)

    -- of some rows those that pass, with the projection's dtype and value
    abbrev pub rows_given : List ℕ → List Item
    rows_given is = map (λ i. (i, (given_dtype a, row_of a.projection i))) (filter passes is)

    -- one of some conjuncts is damaged in a row in which each before it is true
    abbrev pub is_damaged : List Bound → ℕ → Bool
    is_damaged [] i = false
    is_damaged (c ∷ cs) i = not (is_clean (row_of c i)) || (is_true (row_of c i) && is_damaged cs i)

    -- one of them overflows so, or the projection does where each is true
    abbrev pub spills : List Bound → ℕ → Bool
    spills [] i = overflows_in a.projection i
    spills (c ∷ cs) i = overflows_in c i || (is_true (row_of c i) && spills cs i)

    -- so it is in one of some rows
    abbrev pub is_lost : List ℕ → Bool
    is_lost is = list_any (is_damaged (ask_turn a l)) is || list_any (spills (ask_turn a l)) is

    -- what the split of some rows gives: one lost row where reading them comes to damage or overflows
    abbrev pub split_rows : List ℕ → List Item
    split_rows is = unless_lost (is_lost is) (given_dtype a) (rows_given is)

    -- the segments that rows touch from one up to another, where what is evaluated needs them
    abbrev pub needed_places : Range ℕ → List Place
    needed_places r = filter (λ p. needed_by (asked_dtype a) (ask_exprs a) p.path) (touched l store r.start r.end)

    -- the segments that may be asked for: where rows are named, of each split from its first to its last named row
    abbrev pub named_places : List Place
    named_places = flat_map (λ r. needed_places (narrowed a.selection r)) read_ranges

    -- a named segment of this id is missing, does not decode, or holds a bad offset
    abbrev pub holds_flaw : ℕ → Bool
    holds_flaw id = list_any (λ p. (p.id == id) && has_flaw l store p) named_places

    -- at a row some conjunct overflows, or each is true and the projection overflows
    abbrev pub overflows_at : ℕ → Bool
    overflows_at i = list_any (λ c. overflows_in c i) (ask_conjuncts a) || (passes i && overflows_in a.projection i)

-- a file of a layout
abbrev pub layout_part : FileAsk → Layout → Part Item
layout_part a l = record {
  row_count = rows_of l;
  splits = λ store. map (λ r. split_rows a l store (picks a l r)) (read_ranges a l);
  named = λ store id. names_id id (named_places a l store);
  bad = holds_flaw a l;
  overflow = λ store. list_any (overflows_at a l store) (flat_map (picks a l) (read_ranges a l));
}

-- a file that is skipped
abbrev pub no_part : Part Item
no_part = record { row_count = 0; splits = λ store. []; named = λ store id. false; bad = λ store id. false; overflow = λ store. false }
