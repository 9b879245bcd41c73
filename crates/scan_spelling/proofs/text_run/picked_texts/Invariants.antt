use Rattle.std.proofs.Common.{◌≡◌, ◌+◌, ◌++◌, drop, length}
use Rattle.std.specs.List.{items_where_true, slice_range}
use Rattle.scan_values.specs.declared.dtype.DTypeKind.TheVariants as kinds
use Rattle.scan_spelling.specs.Spelling.{cells}
use Rattle.scan_spelling.specs.LeafColumns.{or_none}
use Rattle.scan_spelling.specs.TextColumns.{row_flags}
use Rattle.scan_spelling.proofs.Cutting.{IsRun, run_values}
use Rattle.scan_spelling.proofs.text_run.picked_texts.Given as goal

abbrev pub invariant-loop-i : goal.invariant-loop-i
invariant-loop-i l = record {
  run : IsRun l.made.items l.places.items l.valid.items;
  values : run_values l.made.items l.places.items l.valid.items ++ items_where_true (drop l.i l.mask) (drop l.i (slice_range (or_none (cells kinds.Utf8 (row_flags l.spelling l.nullability l.rows l.flags) l.bytes)) l.first (l.first + length l.mask))) ≡ items_where_true l.mask (slice_range (or_none (cells kinds.Utf8 (row_flags l.spelling l.nullability l.rows l.flags) l.bytes)) l.first (l.first + length l.mask));
}
