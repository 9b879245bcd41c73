use Rattle.std.proofs.Common.{ap, sym, ◌∙◌}
use Rattle.scan_values.specs.declared.ptype.Nullability.TheVariants.{Nullable}
use Rattle.scan_values.specs.Val.{bool_val, read_marked, read-marked}
use Rattle.scan_columns.specs.Typed.{cell}
use Rattle.scan_columns.proofs.truths.paired_slots.Goals as goal

pub returns-in-And : goal.returns-in-And
returns-in-And c = rw (c.in-And.is) (sym (read-marked (cell bool_val c.logic_slots.result)) ∙ ap read_marked (c.logic_slots.ensures Nullable))

pub returns-in-Or : goal.returns-in-Or
returns-in-Or c = rw (c.in-Or.is) (sym (read-marked (cell bool_val c.logic_slots-in-Or.result)) ∙ ap read_marked (c.logic_slots-in-Or.ensures Nullable))
