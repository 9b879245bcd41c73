use Rattle.std.proofs.Common.{◌≡◌, ◌∙◌, List, ap, slice_get, Some}
use Rattle.scan_values.specs.declared.dtype.DTypeKind.{DTypeKind}
use Rattle.scan_values.specs.Val.{Val}
use Rattle.scan_spelling.specs.Spelling.{decode_under}
use Rattle.scan_spelling.specs.LeafColumns.{or_none, spelled}
use Rattle.scan_spelling.proofs.BitColumns.{still}
use Rattle.scan_spelling.proofs.TextRows.{text_read}
use Rattle.scan_spelling.proofs.column.text_at.Goals as goal

pub text_under-requires-clause-spelled : goal.text_under-requires-clause-spelled
text_under-requires-clause-spelled c =
    let vs : List Val = spelled c.args.spelling c.args.dtype.now c.args.rows c.args.bytes.now in
    let read : decode_under c.args.spelling c.nullability.result DTypeKind.Utf8 c.args.rows c.args.bytes.now ≡ Some vs = rw c.nullability.ensures (text_read c.args.spelling c.args.dtype.now c.args.rows c.args.bytes.now c.requires.spelled c.requires.text) in
    still (decode_under c.args.spelling c.nullability.result DTypeKind.Utf8 c.args.rows c.args.bytes.now) vs read

pub text_under-requires-clause-ends : goal.text_under-requires-clause-ends
text_under-requires-clause-ends c = rw c.nullability.ensures c.requires.ends

pub returns : goal.returns
returns c =
    let vs : List Val = spelled c.args.spelling c.args.dtype.now c.args.rows c.args.bytes.now in
    let read : decode_under c.args.spelling c.nullability.result DTypeKind.Utf8 c.args.rows c.args.bytes.now ≡ Some vs = rw c.nullability.ensures (text_read c.args.spelling c.args.dtype.now c.args.rows c.args.bytes.now c.requires.spelled c.requires.text) in
    c.text_under.ensures ∙ ap (λ us. slice_get us c.args.i) (ap or_none read)
