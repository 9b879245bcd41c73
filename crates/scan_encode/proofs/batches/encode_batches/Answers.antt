use Rattle.std.proofs.Common.{◌≡◌, rules}
use Rattle.scan_encode.specs.Batches.{rows_of_all}
use Rattle.scan_encode.specs.Parts.{given}
use Rattle.scan_encode.specs.RowsIn.{rows_in}
use Rattle.scan_encode.proofs.Lending.{all_held, unread}
use Rattle.scan_encode.proofs.Having.{has_same}
use Rattle.scan_encode.proofs.Whole.{whole_short, full_unwritten}
use Rattle.scan_encode.proofs.batches.encode_batches.Goals as goal

pub returns-in-Ok-clause-holds : goal.returns-in-Ok-clause-holds
returns-in-Ok-clause-holds c =
    let same : rows_in c.as_slice.result.now ≡ given (rows_of_all c.args.batches.now) = search rules in
    all_held c.args.dtype.now (rows_of_all c.args.batches.now) c.as_slice.result.now c.push_tree.new.segments c.push_tree.result same c.push_tree.ensures.tree

pub returns-in-Ok-clause-short : goal.returns-in-Ok-clause-short
returns-in-Ok-clause-short c = whole_short (rows_of_all c.args.batches.now) c.push_tree.result c.in-Ok.ensures.short

pub returns-in-Ok-clause-refused : goal.returns-in-Ok-clause-refused
returns-in-Ok-clause-refused c = full_unwritten (rows_of_all c.args.batches.now) c.push_tree.new.segments c.push_tree.result c.push_tree.ensures.refused

pub returns-in-Err-clause-has : goal.returns-in-Err-clause-has
returns-in-Err-clause-has c = has_same c.args.segments.now

pub returns-in-Err-clause-refused : goal.returns-in-Err-clause-refused
returns-in-Err-clause-refused c = unread (rows_of_all c.args.batches.now) c.args.segments.now c.in-Err.fault c.in-Err.ensures.refused
