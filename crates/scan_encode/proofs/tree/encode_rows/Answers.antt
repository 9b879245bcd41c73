use Rattle.scan_encode.proofs.Fields.{value_fit}
use Rattle.scan_encode.proofs.Having.{has_same}
use Rattle.scan_encode.proofs.Whole.{texts_are, whole_made, whole_short, full_unwritten}
use Rattle.scan_encode.proofs.RowsOf.{of_given}
use Rattle.scan_encode.proofs.tree.encode_rows.Goals as goal

pub push_given-requires : goal.push_given-requires
push_given-requires c =
    let texts = texts_are c.all_texts_fit.result _ c.as_slice-values.result.now c.args.rows.now.items c.all_texts_fit.ensures c.as_slice-values.ensures.items c.if-all_texts_fit.true in
    value_fit c.dtype.result.now c.args.rows.now.dtype c.as_slice-values.result.now c.args.rows.now.items c.dtype.ensures c.as_slice-values.ensures.items
    (of_given c.args.rows.now.dtype c.args.rows.now.items c.as_slice-values.ensures.fit texts)

pub returns-then-all_texts_fit-clause-holds : goal.returns-then-all_texts_fit-clause-holds
returns-then-all_texts_fit-clause-holds c =
    whole_made c.dtype.result.now c.args.rows.now.dtype c.as_slice-values.result.now c.args.rows.now.items c.push_given.new.segments c.push_given.result c.dtype.ensures
    c.as_slice-values.ensures.items c.push_given.ensures.tree

pub returns-then-all_texts_fit-clause-short : goal.returns-then-all_texts_fit-clause-short
returns-then-all_texts_fit-clause-short c =
    whole_short c.args.rows.now.items c.push_given.result
    (texts_are c.all_texts_fit.result _ c.as_slice-values.result.now c.args.rows.now.items c.all_texts_fit.ensures c.as_slice-values.ensures.items c.if-all_texts_fit.true)

pub returns-then-all_texts_fit-clause-refused : goal.returns-then-all_texts_fit-clause-refused
returns-then-all_texts_fit-clause-refused c = full_unwritten c.args.rows.now.items c.push_given.new.segments c.push_given.result c.push_given.ensures.refused

pub returns-else-all_texts_fit-clause-has : goal.returns-else-all_texts_fit-clause-has
returns-else-all_texts_fit-clause-has c = has_same c.args.segments.now

pub returns-else-all_texts_fit-clause-refused : goal.returns-else-all_texts_fit-clause-refused
returns-else-all_texts_fit-clause-refused c =
    texts_are c.all_texts_fit.result _ c.as_slice-values.result.now c.args.rows.now.items c.all_texts_fit.ensures c.as_slice-values.ensures.items c.if-all_texts_fit.false
