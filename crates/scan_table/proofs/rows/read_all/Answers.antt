use Rattle.std.proofs.Common.{length, map, arith}
use Rattle.scan_columns.specs.Cells.{vals_in}
use Rattle.scan_groups.proofs.Totalling.{count_same}
use Rattle.scan_table.proofs.Columned.{all_read, measure_read, none_read}
use Rattle.scan_table.proofs.rows.read_all.Goals as goal

pub loop-measure-init : goal.loop-measure-init
loop-measure-init c = none_read c.args.places.now (length c.args.places.now) (map vals_in c.args.columns.now) c.args.groups.now

pub read_measure-requires-clause-measure : goal.read_measure-requires-clause-measure
read_measure-requires-clause-measure c = let e = count_same c.args.groups.now c.loop-measure.groups c.loop-measure.invariant.measures in omega (arith, e, c.loop-measure-test.true, c.measure_count-measure-end.ensures)

pub loop-measure-preserved : goal.loop-measure-preserved
loop-measure-preserved c =
    measure_read c.args.places.now (length c.args.places.now) (map vals_in c.args.columns.now) c.loop-measure.measure c.args.groups.now c.loop-measure.groups c.read_measure.new.groups c.loop-measure.invariant c.in_ok-read_measure.ensures

pub returns : goal.returns
returns c =
    let e = count_same c.args.groups.now c.loop-measure.groups c.loop-measure.invariant.measures in
    all_read c.args.places.now (length c.args.places.now) (map vals_in c.args.columns.now) c.loop-measure.measure c.args.groups.now c.loop-measure.groups (omega (arith, e, c.loop-measure-test.false, c.measure_count-measure-end.ensures))
    c.loop-measure.invariant
