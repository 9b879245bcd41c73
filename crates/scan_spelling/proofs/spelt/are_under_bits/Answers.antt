use Rattle.std.proofs.Common.{◌∙◌, ◌*◌, ◌==◌, ap, length}
use Rattle.scan_spelling.proofs.BitColumns.{flag_bits_of, under_bits}
use Rattle.scan_spelling.proofs.spelt.are_under_bits.Goals as goal

pub returns-in-Bool : goal.returns-in-Bool
returns-in-Bool c = c.is_group.ensures ∙ flag_bits_of c.args.kind c.args.rows c.args.flags.now c.args.bytes.now c.in-Bool.is c.requires.flags

pub returns-in_default : goal.returns-in_default
returns-in_default c =
    c.is_long.ensures ∙ ap (λ w. c.args.rows * w == length c.args.bytes.now) c.slot_width.ensures.same
    ∙ under_bits c.args.kind c.args.rows c.args.flags.now c.args.bytes.now c.requires.width c.in_default.not-Bool c.requires.flags
