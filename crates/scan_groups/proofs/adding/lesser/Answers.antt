use Rattle.std.proofs.Common.{sym, ◌∙◌}
use Rattle.scan_values.specs.Values.{val_of}
use Rattle.scan_groups.specs.Cells.{cell_val}
use Rattle.scan_groups.proofs.Added.{least_same, least_push}
use Rattle.scan_groups.proofs.adding.lesser.Goals as goal

pub returns-then-is_null : goal.returns-then-is_null
returns-then-is_null c = least_same (val_of c.args.least) (cell_val c.args.cell) (sym c.is_null.ensures ∙ c.if-is_null.true)

pub less-requires : goal.less-requires
less-requires c = sym c.is_null.ensures ∙ c.if-is_null.false

pub returns : goal.returns
returns c = least_push c.less.result (val_of c.args.least) (cell_val c.args.cell) (sym c.is_null.ensures ∙ c.if-is_null.false) (λ us nn h. c.less.ensures us nn h)
