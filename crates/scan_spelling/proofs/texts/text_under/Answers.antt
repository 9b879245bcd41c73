use Rattle.std.proofs.Common.{◌≡◌, ◌∙◌, List, ap, Some, slice_get}
use Rattle.scan_values.specs.Val.{Val}
use Rattle.scan_values.specs.declared.dtype.DTypeKind.TheVariants as kinds
use Rattle.scan_spelling.specs.Spelling.{cells, decode_under}
use Rattle.scan_spelling.specs.LeafColumns.{or_none}
use Rattle.scan_spelling.specs.TextColumns.{row_flags}
use Rattle.scan_spelling.proofs.BitColumns.{still}
use Rattle.scan_spelling.proofs.TextRows.{text_parts, ends_parts}
use Rattle.scan_spelling.proofs.texts.text_under.Goals as goal

pub split_at-requires : goal.split_at-requires
split_at-requires c =
    let vs : List Val = or_none (decode_under c.args.spelling c.args.nullability kinds.Utf8 c.args.rows c.args.bytes.now) in
    let parts = text_parts c.args.spelling c.args.nullability c.args.rows c.args.bytes.now vs c.requires.spelled in
    rw c.flag_bytes.ensures parts.0

pub text_row-requires-clause-spelled : goal.text_row-requires-clause-spelled
text_row-requires-clause-spelled c =
    let vs : List Val = or_none (decode_under c.args.spelling c.args.nullability kinds.Utf8 c.args.rows c.args.bytes.now) in
    let parts = text_parts c.args.spelling c.args.nullability c.args.rows c.args.bytes.now vs c.requires.spelled in
    let read : cells kinds.Utf8 (row_flags c.args.spelling c.args.nullability c.args.rows c.split_at.result.0.now) c.split_at.result.1.now ≡ Some vs = rw (c.split_at.ensures.front, c.split_at.ensures.back, c.flag_bytes.ensures) parts.1 in
    still (cells kinds.Utf8 (row_flags c.args.spelling c.args.nullability c.args.rows c.split_at.result.0.now) c.split_at.result.1.now) vs read

pub text_row-requires-clause-ends : goal.text_row-requires-clause-ends
text_row-requires-clause-ends c = rw (c.split_at.ensures.front, c.split_at.ensures.back, c.flag_bytes.ensures) (ends_parts c.args.spelling c.args.nullability c.args.rows c.args.bytes.now c.args.ends.now c.requires.ends)

pub returns : goal.returns
returns c =
    let vs : List Val = or_none (decode_under c.args.spelling c.args.nullability kinds.Utf8 c.args.rows c.args.bytes.now) in
    let parts = text_parts c.args.spelling c.args.nullability c.args.rows c.args.bytes.now vs c.requires.spelled in
    let read : cells kinds.Utf8 (row_flags c.args.spelling c.args.nullability c.args.rows c.split_at.result.0.now) c.split_at.result.1.now ≡ Some vs = rw (c.split_at.ensures.front, c.split_at.ensures.back, c.flag_bytes.ensures) parts.1 in
    c.text_row.ensures ∙ ap (λ us. slice_get us c.args.i) (ap or_none read)
