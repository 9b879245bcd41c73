-- The futures of a file, by the builder that makes them.
use Rattle.std.proofs.Common.{◌≡◌, ℕ, List, [], ◌∷◌, map, filter, Option, None, Some, refl, ap, subst, ◌∙◌}
use Rattle.std.specs.declared.ops.Range.{Range}
use Rattle.scan_values.specs.DataType.{Name}
use Rattle.scan_values.specs.Selections.{is_among, row_mask}
use Rattle.scan_values.specs.declared.selection.Selection.{Selection}
use Rattle.scan_expr.specs.Bound.{Bound}
use Rattle.scan_layout.specs.Edges.{edges}
use Rattle.scan_layout.specs.Laws.{path_of}
use Rattle.scan_layout.specs.Layout.{Layout, rows_of}
use Rattle.scan_plans.specs.Futures.{FutureData}
use Rattle.scan_readers.specs.LeafPlans.{layout_state}
use Rattle.scan_readers.specs.Readers.{ReaderState}
use Rattle.scan_readers.specs.RowIdxData.{numbered_state}
use Rattle.scan_streams.specs.Plans.{PlansData, split_data}
use Rattle.scan_core.specs.Boundaries.{cut_rows}
use Rattle.scan_core.specs.BuilderData.{BuilderData, asked_masks, chosen_points, conjuncts_in}
use Rattle.scan_core.specs.FieldMasks.{firsts, path_mask, scan_paths}
use Rattle.scan_core.specs.Prepared.{IsPrepared}
use Rattle.scan_core.specs.RowRanges.{narrowed}
use Rattle.scan_core.specs.ScanData.{ScanData, array_of, scan_ranges, split_of, splits_of}
use Rattle.scan_core.specs.SplitData.{SplitData}
use Rattle.scan_core.specs.SplitMeaning.{IsScanOf, in_turn}
use Rattle.scan_core.specs.SplitRanges.{common, span_of, split_ranges}
use Rattle.scan_file.specs.FileAsks.{FileAsk}
use Rattle.scan_file.specs.FileScans.{IsAskedOf, IsFileScan, arrays_of}
use Rattle.scan_file.specs.Parts.{ask_range, ask_turn, file_ranges, file_rows, split_points}

-- ---- the splits that may give a row

-- ---- what a builder makes
common_none : (o : Option (Range ℕ)) → common o None ≡ o
common_none None = refl
common_none (Some r) = refl

path_back : (p : List Name) → path_of (path_mask p) ≡ p
path_back [] = refl
path_back (n ∷ ns) = refl

paths_back : (ps : List (List Name)) → map path_of (map path_mask ps) ≡ ps
paths_back [] = refl
paths_back (p ∷ ps) = λ i. path_back p i ∷ paths_back ps i

abbrev pub future_by : Selection → PlansData → Range ℕ → FutureData
future_by sel p r = split_data p (narrowed sel r).start (row_mask sel (narrowed sel r))

arrays_are : {M : Type 0} (s : ScanData M) (rs : List (Range ℕ)) → arrays_of (map (split_of s) rs) ≡ map (array_of s) rs
arrays_are s [] = refl
arrays_are s (r ∷ rs) = ap (λ fs. array_of s r ∷ fs) (arrays_are s rs)

module _ {R M : Type 0} (state : R → ReaderState) (a : FileAsk) (l : Layout) (reader : R) (b : BuilderData R M) (s : ScanData M) (st : state reader ≡ layout_state [] l) (asked : IsAskedOf a reader b) (p : IsPrepared (state b.reader) b s) where
  own : state b.reader ≡ layout_state [] l
  own = ap state asked.reader_is ∙ st

  points : s.boundaries ≡ split_points a l
  points =
      p.boundaries
      ∙ (λ i. chosen_points (own i) (asked.settings.split_by i) (asked_masks (asked.projection i) (asked.filter_is i)) (asked.range i) (asked.settings.natural i))
      ∙ ap (λ ms. cut_rows (is_among (edges l ms (ask_range a l).start (ask_range a l).end)) (ask_range a l)) (paths_back (firsts (scan_paths a.projection a.filter)))

  count : s.rows ≡ rows_of l
  count = p.rows ∙ ap (λ (t : ReaderState). t.rows) own

  chosen : s.selection ≡ a.selection
  chosen = p.selection ∙ asked.selection

  ranged : s.range ≡ a.range
  ranged = p.range ∙ asked.range

  ranges : scan_ranges s None ≡ file_ranges a l
  ranges = λ i. split_ranges (points i) (common ((common_none s.range ∙ ranged) i) (span_of (chosen i) (count i)))

  planned : IsScanOf (file_rows l) (ask_turn a l) a.projection s.plans
  planned =
      subst (λ (e : Bound). IsScanOf (file_rows l) (ask_turn a l) e s.plans) asked.projection
      (subst (λ (f : Option Bound). IsScanOf (file_rows l) (in_turn (file_rows l) (conjuncts_in f)) b.projection s.plans) asked.filter_is
      (subst (λ (n : ℕ). IsScanOf (numbered_state n (layout_state [] l)) (in_turn (numbered_state n (layout_state [] l)) (conjuncts_in b.filter)) b.projection s.plans) asked.settings.offset
      (subst (λ (t : ReaderState). IsScanOf (numbered_state b.offset t) (in_turn (numbered_state b.offset t) (conjuncts_in b.filter)) b.projection s.plans) own p.plans)))

  pub file_scan : (fs : List (SplitData M)) → fs ≡ splits_of s None → IsFileScan a l (arrays_of fs)
  file_scan fs e = record {
    plans = s.plans;
    means = planned;
    arrays = ap arrays_of e ∙ arrays_are s (scan_ranges s None) ∙ (λ i. map (λ r. future_by (chosen i) s.plans r) (ranges i));
  }
