use Rattle.std.proofs.Common.{◌≡◌, map, rules}
use Rattle.scan_values.specs.declared.ptype.Nullability.TheVariants.{NonNullable}
use Rattle.scan_values.specs.DataType.{bool_type}
use Rattle.scan_values.specs.Values.{val_of}
use Rattle.scan_encode.specs.Rows.{validity}
use Rattle.scan_encode.specs.RowsIn.{rows_in}
use Rattle.scan_encode.proofs.Fields.{value_fit, value_made}
use Rattle.scan_encode.proofs.Having.{has_same}
use Rattle.scan_encode.proofs.RowsOf.{of_validity}
use Rattle.scan_encode.proofs.tree.push_truths.Goals as goal

pub returns-in_err-values-clause-has : goal.returns-in_err-values-clause-has
returns-in_err-values-clause-has c = has_same c.args.segments.now

pub push_values-requires-clause-fit : goal.push_values-requires-clause-fit
push_values-requires-clause-fit c =
    let same : map val_of c.as_slice.result.now ≡ validity (rows_in c.args.rows.now) = search rules in
    value_fit c.bool-truth.result (bool_type NonNullable) c.as_slice.result.now (validity (rows_in c.args.rows.now)) c.bool-truth.ensures same (of_validity (rows_in c.args.rows.now))

pub returns-clause-leaf : goal.returns-clause-leaf
returns-clause-leaf c =
    let same : map val_of c.as_slice.result.now ≡ validity (rows_in c.args.rows.now) = search rules in
    value_made c.bool-truth.result (bool_type NonNullable) c.as_slice.result.now (validity (rows_in c.args.rows.now)) c.push_values.new.segments c.push_values.result c.bool-truth.ensures same c.push_values.ensures.leaf
