use Rattle.std.proofs.Common.{sym, ◌∙◌}
use Rattle.scan_values.specs.Values.{val_of}
use Rattle.scan_groups.specs.Cells.{cell_val}
use Rattle.scan_groups.proofs.Added.{greatest_same, greatest_push}
use Rattle.scan_groups.proofs.adding.greater.Goals as goal

pub returns-then-is_null : goal.returns-then-is_null
returns-then-is_null c = greatest_same (val_of c.args.greatest) (cell_val c.args.cell) (sym c.is_null.ensures ∙ c.if-is_null.true)

pub more-requires : goal.more-requires
more-requires c = sym c.is_null.ensures ∙ c.if-is_null.false

pub returns : goal.returns
returns c = greatest_push c.more.result (val_of c.args.greatest) (cell_val c.args.cell) (sym c.is_null.ensures ∙ c.if-is_null.false) (λ us nn h. c.more.ensures us nn h)
