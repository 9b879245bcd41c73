use Rattle.std.proofs.Common.{◌≡◌, ◌+◌, List, ap, subst, length, IfOk, Some, slice_range}
use Rattle.std.specs.List.{items_where_true}
use Rattle.scan_values.specs.Val.{Val}
use Rattle.scan_values.specs.declared.dtype.DTypeKind.TheVariants as kinds
use Rattle.scan_spelling.specs.Spelling.{cells, decode_under}
use Rattle.scan_spelling.specs.LeafColumns.{or_none}
use Rattle.scan_spelling.specs.TextColumns.{row_flags}
use Rattle.scan_spelling.proofs.BitColumns.{still}
use Rattle.scan_spelling.proofs.TextRows.{text_parts, ends_parts}
use Rattle.scan_spelling.proofs.text_run.text_run.Goals as goal

pub split_at-requires : goal.split_at-requires
split_at-requires c =
    let vs : List Val = or_none (decode_under c.args.spelling c.args.nullability kinds.Utf8 c.args.rows c.args.bytes.now) in
    let parts = text_parts c.args.spelling c.args.nullability c.args.rows c.args.bytes.now vs c.requires.spelled in
    rw c.flag_bytes.ensures parts.0

pub picked_texts-requires-clause-spelled : goal.picked_texts-requires-clause-spelled
picked_texts-requires-clause-spelled c =
    let vs : List Val = or_none (decode_under c.args.spelling c.args.nullability kinds.Utf8 c.args.rows c.args.bytes.now) in
    let parts = text_parts c.args.spelling c.args.nullability c.args.rows c.args.bytes.now vs c.requires.spelled in
    let read : cells kinds.Utf8 (row_flags c.args.spelling c.args.nullability c.args.rows c.split_at.result.0.now) c.split_at.result.1.now ≡ Some vs = rw (c.split_at.ensures.front, c.split_at.ensures.back, c.flag_bytes.ensures) parts.1 in
    still (cells kinds.Utf8 (row_flags c.args.spelling c.args.nullability c.args.rows c.split_at.result.0.now) c.split_at.result.1.now) vs read

pub picked_texts-requires-clause-ends : goal.picked_texts-requires-clause-ends
picked_texts-requires-clause-ends c = rw (c.split_at.ensures.front, c.split_at.ensures.back, c.flag_bytes.ensures) (ends_parts c.args.spelling c.args.nullability c.args.rows c.args.bytes.now c.args.ends.now c.requires.ends)

pub returns : goal.returns
returns c =
    let vs : List Val = or_none (decode_under c.args.spelling c.args.nullability kinds.Utf8 c.args.rows c.args.bytes.now) in
    let parts = text_parts c.args.spelling c.args.nullability c.args.rows c.args.bytes.now vs c.requires.spelled in
    let read : cells kinds.Utf8 (row_flags c.args.spelling c.args.nullability c.args.rows c.split_at.result.0.now) c.split_at.result.1.now ≡ Some vs = rw (c.split_at.ensures.front, c.split_at.ensures.back, c.flag_bytes.ensures) parts.1 in
    subst (λ us. IfOk c.picked_texts.result (λ r. r ≡ items_where_true c.args.mask.now (slice_range us c.args.first (c.args.first + length c.args.mask.now)))) (ap or_none read) c.picked_texts.ensures
