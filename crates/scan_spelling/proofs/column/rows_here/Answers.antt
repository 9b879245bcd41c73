use Rattle.std.proofs.Common.{◌≡◌, List, subst, IfOk}
use Rattle.scan_values.specs.Val.{Val}
use Rattle.scan_spelling.specs.Spelling.{decode_under}
use Rattle.scan_spelling.specs.LeafColumns.{or_none}
use Rattle.scan_spelling.proofs.BitColumns.{here_plain_of, here_flagged, under_parts, nullable_of}
use Rattle.scan_spelling.proofs.column.rows_here.Goals as goal

pub split_at-requires : goal.split_at-requires
split_at-requires c =
    let vs : List Val = or_none (decode_under c.args.spelling c.args.nullability c.args.kind c.args.rows c.args.bytes.now) in
    let parts = under_parts c.args.spelling c.args.kind c.args.rows c.args.bytes.now vs (nullable_of c.args.spelling c.args.nullability c.args.kind c.args.rows c.args.bytes.now vs c.in-Nullable.is c.requires) in
    rw c.group_size.ensures parts.0

pub returns-in-NonNullable : goal.returns-in-NonNullable
returns-in-NonNullable c =
    subst (λ b. IfOk c.new_true.result (λ m. m ≡ b))
    (here_plain_of c.args.spelling c.args.nullability c.args.kind c.args.rows c.args.bytes.now (or_none (decode_under c.args.spelling c.args.nullability c.args.kind c.args.rows c.args.bytes.now)) c.in-NonNullable.is c.requires)
    c.new_true.ensures

pub returns-in-Nullable : goal.returns-in-Nullable
returns-in-Nullable c =
    let vs : List Val = or_none (decode_under c.args.spelling c.args.nullability c.args.kind c.args.rows c.args.bytes.now) in
    subst (λ b. IfOk c.flags_set.result (λ m. m ≡ b))
    (rw (c.split_at.ensures.front, c.group_size.ensures)
    (here_flagged c.args.spelling c.args.kind c.args.rows c.args.bytes.now vs (nullable_of c.args.spelling c.args.nullability c.args.kind c.args.rows c.args.bytes.now vs c.in-Nullable.is c.requires)))
    c.flags_set.ensures
