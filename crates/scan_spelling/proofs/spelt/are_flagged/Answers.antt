use Rattle.std.proofs.Common.{◌≡◌, ◌*◌, ◌==◌, length, true, false, ◌∙◌}
use Rattle.scan_spelling.specs.LeafColumns.{slot_width}
use Rattle.scan_spelling.proofs.Columns.{not_long, flagged_bools, flagged_ints}
use Rattle.scan_spelling.proofs.spelt.are_flagged.Goals as goal

pub returns-then-not-is_long : goal.returns-then-not-is_long
returns-then-not-is_long c =
    let short : (length c.args.flags.now * slot_width c.args.kind == length c.args.bytes.now) ≡ false = cc in
    not_long c.args.kind c.args.flags.now c.args.bytes.now c.requires short

pub returns-in-Bool : goal.returns-in-Bool
returns-in-Bool c =
    let long : (length c.args.flags.now * slot_width c.args.kind == length c.args.bytes.now) ≡ true = cc in
    c.are_rows.ensures ∙ flagged_bools c.args.kind c.args.flags.now c.args.bytes.now c.in-Bool.is long

pub returns-in_default : goal.returns-in_default
returns-in_default c =
    let long : (length c.args.flags.now * slot_width c.args.kind == length c.args.bytes.now) ≡ true = cc in
    c.are_flags.ensures ∙ flagged_ints c.args.kind c.args.flags.now c.args.bytes.now c.requires c.in_default.not-Bool long
