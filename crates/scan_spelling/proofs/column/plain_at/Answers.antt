use Rattle.std.proofs.Common.{replicate, ◌∙◌}
use Rattle.scan_spelling.specs.Spelling.{cells}
use Rattle.scan_spelling.specs.LeafColumns.{or_none}
use Rattle.scan_spelling.proofs.Columns.{plain_within, plain_long, plain_is_there, plain_place}
use Rattle.scan_spelling.proofs.column.plain_at.Goals as goal

pub slot_at-requires : goal.slot_at-requires
slot_at-requires c = rw c.slot_width-width.ensures.same (plain_within c.args.kind c.args.rows c.args.bytes.now (or_none (cells c.args.kind (replicate c.args.rows 1) c.args.bytes.now)) c.args.i c.requires.width c.requires.spelled c.requires.within)

pub of_slot-requires-clause-long : goal.of_slot-requires-clause-long
of_slot-requires-clause-long c = rw (c.slot_at.ensures, c.slot_width-width.ensures.same) (plain_long c.args.kind c.args.rows c.args.bytes.now (or_none (cells c.args.kind (replicate c.args.rows 1) c.args.bytes.now)) c.args.i c.requires.width c.requires.spelled c.requires.within)

pub of_slot-requires-clause-there : goal.of_slot-requires-clause-there
of_slot-requires-clause-there c = rw (c.slot_at.ensures, c.slot_width-width.ensures.same) (plain_is_there c.args.kind c.args.rows c.args.bytes.now (or_none (cells c.args.kind (replicate c.args.rows 1) c.args.bytes.now)) c.args.i c.requires.width c.requires.spelled c.requires.within)

pub returns : goal.returns
returns c = c.of_slot.ensures ∙ rw (c.slot_at.ensures, c.slot_width-width.ensures.same) (plain_place c.args.kind c.args.rows c.args.bytes.now (or_none (cells c.args.kind (replicate c.args.rows 1) c.args.bytes.now)) c.args.i c.requires.width c.requires.spelled c.requires.within)
