use Rattle.std.proofs.Common.{◌≡◌, ◌<◌, ◌^◌, map, length, rules, arith}
use Rattle.scan_values.specs.declared.ptype.Nullability.TheVariants.{NonNullable}
use Rattle.scan_values.specs.declared.ptype.PType.TheVariants.{U64}
use Rattle.scan_values.specs.DataType.{int_type}
use Rattle.scan_values.specs.Values.{val_of}
use Rattle.scan_encode.specs.Parts.{offsets}
use Rattle.scan_encode.specs.Rows.{all_elements}
use Rattle.scan_encode.specs.RowsIn.{rows_in}
use Rattle.scan_encode.proofs.Fields.{value_fit, value_made}
use Rattle.scan_encode.proofs.Having.{has_same}
use Rattle.scan_encode.proofs.RowsOf.{of_offsets}
use Rattle.scan_encode.proofs.tree.push_offsets.Goals as goal

pub returns-in_err-values-clause-has : goal.returns-in_err-values-clause-has
returns-in_err-values-clause-has c = has_same c.args.segments.now

pub push_values-requires-clause-fit : goal.push_values-requires-clause-fit
push_values-requires-clause-fit c =
    let same : map val_of c.as_slice.result.now ≡ offsets (rows_in c.args.rows.now) = search rules in
    let few : length (all_elements (rows_in c.args.rows.now)) < 2 ^ 64 = omega (arith, c.requires) in
    value_fit c.primitive-dtype.result (int_type U64 NonNullable) c.as_slice.result.now (offsets (rows_in c.args.rows.now)) c.primitive-dtype.ensures same (of_offsets (rows_in c.args.rows.now) few)

pub returns-clause-leaf : goal.returns-clause-leaf
returns-clause-leaf c =
    let same : map val_of c.as_slice.result.now ≡ offsets (rows_in c.args.rows.now) = search rules in
    value_made c.primitive-dtype.result (int_type U64 NonNullable) c.as_slice.result.now (offsets (rows_in c.args.rows.now)) c.push_values.new.segments c.push_values.result c.primitive-dtype.ensures same c.push_values.ensures.leaf
