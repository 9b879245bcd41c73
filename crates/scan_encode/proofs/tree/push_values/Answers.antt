use Rattle.std.proofs.Common.{◌≡◌, map, rules}
use Rattle.scan_values.specs.Values.{val_of}
use Rattle.scan_encode.specs.Parts.{given}
use Rattle.scan_encode.specs.RowsIn.{rows_in}
use Rattle.scan_encode.proofs.Fields.{lent_fit, lent_made}
use Rattle.scan_encode.proofs.Having.{has_same}
use Rattle.scan_encode.proofs.tree.push_values.Goals as goal

pub returns-in_err-rows-clause-has : goal.returns-in_err-rows-clause-has
returns-in_err-rows-clause-has c = has_same c.args.segments.now

pub push_leaf-requires-clause-fit : goal.push_leaf-requires-clause-fit
push_leaf-requires-clause-fit c =
    let same : rows_in c.as_slice.result.now ≡ given (map val_of c.args.values.now) = search rules in
    lent_fit c.args.dtype.now c.as_slice.result.now (given (map val_of c.args.values.now)) same c.requires.fit

pub returns-clause-leaf : goal.returns-clause-leaf
returns-clause-leaf c =
    let same : rows_in c.as_slice.result.now ≡ given (map val_of c.args.values.now) = search rules in
    lent_made c.args.dtype.now c.as_slice.result.now (given (map val_of c.args.values.now)) c.push_leaf.new.segments c.push_leaf.result same c.push_leaf.ensures.leaf
