use Rattle.std.proofs.Common.{◌∙◌, ap, take, Some}
use Rattle.scan_spelling.specs.Spelling.{decode_under}
use Rattle.scan_spelling.specs.LeafColumns.{or_none, is_set}
use Rattle.scan_spelling.proofs.TextRows.{flags_within, flag_here}
use Rattle.scan_spelling.proofs.column.row_here.Goals as goal

pub split_at-requires : goal.split_at-requires
split_at-requires c = rw c.flag_bytes.ensures (flags_within c.args.spelling c.args.nullability c.args.kind c.args.rows c.args.bytes.now (or_none (decode_under c.args.spelling c.args.nullability c.args.kind c.args.rows c.args.bytes.now)) c.requires.spelled)

pub returns : goal.returns
returns c =
    ap Some (c.is_set.ensures ∙ ap is_set c.flag_of.ensures)
    ∙ flag_here c.args.spelling c.args.nullability c.args.kind c.args.rows c.args.bytes.now (or_none (decode_under c.args.spelling c.args.nullability c.args.kind c.args.rows c.args.bytes.now)) c.requires.spelled c.split_at.result.0.now c.args.i
    (c.split_at.ensures.front ∙ ap (λ k. take k c.args.bytes.now) c.flag_bytes.ensures) (c.split_at.ensures.front_len ∙ c.flag_bytes.ensures) c.requires.within
