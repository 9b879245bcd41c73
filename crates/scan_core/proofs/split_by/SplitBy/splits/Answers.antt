use Rattle.scan_values.specs.Selections.{is_among}
use Rattle.scan_core.specs.Boundaries.{is_nth}
use Rattle.scan_core.proofs.Cutting.{these_rise, these_end}
use Rattle.scan_core.proofs.split_by.SplitBy.splits.Goals as goal

pub returns-in_ok-own_splits-in-Layout-clause-rising : goal.returns-in_ok-own_splits-in-Layout-clause-rising
returns-in_ok-own_splits-in-Layout-clause-rising g c =
    let r = c.args.range.now in
    let edges = (g.R.LayoutReader.state c.args.reader.now).edges c.args.masks.now r.start r.end in
    these_rise (is_among edges) r c.in_ok-own_splits-in-Layout.field-0.items c.in_ok-own_splits-in-Layout.ensures.splits

pub returns-in_ok-own_splits-in-Layout-clause-ends : goal.returns-in_ok-own_splits-in-Layout-clause-ends
returns-in_ok-own_splits-in-Layout-clause-ends g c =
    let r = c.args.range.now in
    let edges = (g.R.LayoutReader.state c.args.reader.now).edges c.args.masks.now r.start r.end in
    these_end (is_among edges) r c.in_ok-own_splits-in-Layout.field-0.items c.requires.order c.in_ok-own_splits-in-Layout.ensures.splits

pub returns-in_ok-every_rows-in-RowCount-clause-rising : goal.returns-in_ok-every_rows-in-RowCount-clause-rising
returns-in_ok-every_rows-in-RowCount-clause-rising g c =
    let r = c.args.range.now in
    these_rise (is_nth c.in-RowCount.n r.start) r c.in_ok-every_rows-in-RowCount.field-0.items c.in_ok-every_rows-in-RowCount.ensures

pub returns-in_ok-every_rows-in-RowCount-clause-ends : goal.returns-in_ok-every_rows-in-RowCount-clause-ends
returns-in_ok-every_rows-in-RowCount-clause-ends g c =
    let r = c.args.range.now in
    these_end (is_nth c.in-RowCount.n r.start) r c.in_ok-every_rows-in-RowCount.field-0.items c.requires.order c.in_ok-every_rows-in-RowCount.ensures
