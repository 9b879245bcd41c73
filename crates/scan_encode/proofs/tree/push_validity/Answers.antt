use Rattle.std.proofs.Common.{ap}
use Rattle.scan_values.specs.DataType.{nullability_of}
use Rattle.scan_layout.specs.LayoutView.{layouts_of}
use Rattle.scan_encode.specs.RowsIn.{rows_in}
use Rattle.scan_encode.proofs.Fields.{valid_none, valid_one}
use Rattle.scan_encode.proofs.Having.{has_same}
use Rattle.scan_encode.proofs.tree.push_validity.Goals as goal

pub returns-in-NonNullable-clause-valid : goal.returns-in-NonNullable-clause-valid
returns-in-NonNullable-clause-valid c =
    valid_none (nullability_of c.args.dtype.now) (rows_in c.args.rows.now) c.args.segments.now (layouts_of c.new.result.items) c.in-NonNullable.ensures (ap layouts_of c.new.ensures.items)

pub returns-in-NonNullable-clause-has : goal.returns-in-NonNullable-clause-has
returns-in-NonNullable-clause-has c = has_same c.args.segments.now

pub returns-in_ok-one-in-Nullable-clause-valid : goal.returns-in_ok-one-in-Nullable-clause-valid
returns-in_ok-one-in-Nullable-clause-valid c =
    valid_one (nullability_of c.args.dtype.now) (rows_in c.args.rows.now) c.push_truths.new.segments (layouts_of c.in_ok-one-in-Nullable.field-0.items) c.in_ok-truths-in-Nullable.truths.value c.in-Nullable.ensures
    c.in_ok-truths-in-Nullable.ensures.leaf c.in_ok-one-in-Nullable.ensures
