use Rattle.std.proofs.Common.{false}
use Rattle.scan_values.specs.Val.{bool_val}
use Rattle.scan_columns.proofs.TypedLemmas.{typed_get}
use Rattle.scan_columns.proofs.bools.bool_at.Goals as goal

pub returns : goal.returns
returns c = rw (c.bool_cell.ensures) (typed_get bool_val c.args.values.now c.args.valid.now c.args.i false false c.requires.place c.requires.even)
