use Rattle.std.proofs.Common.{◌≡◌, map, rules}
use Rattle.scan_values.specs.Values.{val_of}
use Rattle.scan_encode.specs.Parts.{given}
use Rattle.scan_encode.specs.RowsIn.{rows_in}
use Rattle.scan_encode.proofs.Fields.{lent_fit, lent_made}
use Rattle.scan_encode.proofs.Having.{has_same}
use Rattle.scan_encode.proofs.tree.push_given.Goals as goal

pub returns-in_err-rows-clause-has : goal.returns-in_err-rows-clause-has
returns-in_err-rows-clause-has c = has_same c.args.segments.now

pub push_tree-requires : goal.push_tree-requires
push_tree-requires c =
    let same : rows_in c.as_slice.result.now ≡ given (map val_of c.args.values.now) = search rules in
    lent_fit c.args.dtype.now c.as_slice.result.now (given (map val_of c.args.values.now)) same c.requires

pub returns-clause-tree : goal.returns-clause-tree
returns-clause-tree c =
    let same : rows_in c.as_slice.result.now ≡ given (map val_of c.args.values.now) = search rules in
    lent_made c.args.dtype.now c.as_slice.result.now (given (map val_of c.args.values.now)) c.push_tree.new.segments c.push_tree.result same c.push_tree.ensures.tree
