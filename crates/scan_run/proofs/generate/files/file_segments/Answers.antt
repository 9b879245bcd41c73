use Rattle.std.proofs.Common.{◌≡◌, ◌+◌, ◌++◌, ap, sym, ◌∙◌, append_assoc}
use Rattle.scan_values.specs.declared.ptype.PType.TheVariants.{U8, U32}
use Rattle.scan_values.specs.Selections.{numbers}
use Rattle.scan_run.specs.Generated.{ids, values, elements, offsets, number_type, value_type, column_segments}
use Rattle.scan_run.proofs.Cutting.{wide_elements, column_added, written_long, four_parts}
use Rattle.scan_run.proofs.generate.files.file_segments.Goals as goal

pub returns : goal.returns
returns c =
    let s = c.args.spelling in
    let a = c.args.first in
    let n = c.args.count in
    let third = column_added s U8 (elements a n) _ _ _ _ (wide_elements U8 (numbers a (a + n))) c.requires.written (sym (written_long c.args.written.now a n c.requires.written)) c.in_ok-push_column.ensures in
    four_parts _ _ _ _ _ (column_segments s (number_type U32) (ids a n)) (column_segments s value_type (values a n)) (column_segments s (number_type U8) (elements a n)) (column_segments s (number_type U32) (offsets a n))
    c.new-segments.ensures.items (c.in_ok-push_ids.ensures s) c.in_ok-push_values.ensures third (c.in_ok-push_offsets.ensures s)
