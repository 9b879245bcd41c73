use Rattle.scan_values.specs.declared.value.Value.TheVariants.{Null}
use Rattle.scan_groups.specs.Cells.{run_vals}
use Rattle.scan_groups.proofs.Added.{enough}
use Rattle.scan_groups.proofs.Tallying.{count_more, values_more, sums_more, least_more, greatest_more}
use Rattle.scan_groups.proofs.tally.Tally.with_rows.Goals as goal

pub returns-in_ok-with_rows-in-Count : goal.returns-in_ok-with_rows-in-Count
returns-in_ok-with_rows-in-Count c =
    let e = c.in_ok-with_rows-in-Count.ensures in
    count_more c.args.self c.args.places.now (run_vals c.args.run) c.args.groups c.in-Count.counts c.in_ok-with_rows-in-Count.field-0 c.in-Count.is e.short (e.more (run_vals c.args.run) c.requires.even)

pub count_values-requires-clause-places : goal.count_values-requires-clause-places
count_values-requires-clause-places c =
    enough c.in-Values.counts.items c.in_ok-grown-in-Values.field-0.items c.args.groups 0 c.args.places.now c.in_ok-grown-in-Values.ensures c.requires.places

pub returns-in_ok-counts-in-Values : goal.returns-in_ok-counts-in-Values
returns-in_ok-counts-in-Values c =
    values_more c.args.self c.args.places.now (run_vals c.args.run) c.args.groups c.in-Values.place c.in-Values.counts c.in_ok-grown-in-Values.field-0 c.in_ok-counts-in-Values.counts c.in-Values.is c.in_ok-grown-in-Values.ensures c.in_ok-counts-in-Values.ensures.long c.in_ok-counts-in-Values.ensures.more

pub returns-in_ok-with_run-in-Sum : goal.returns-in_ok-with_run-in-Sum
returns-in_ok-with_run-in-Sum c =
    let e = c.in_ok-with_run-in-Sum.ensures in
    sums_more c.args.self c.args.places.now (run_vals c.args.run) c.args.groups c.in-Sum.place c.in-Sum.sums c.in_ok-with_run-in-Sum.field-0 c.in-Sum.is e.short e.more

pub find_least-requires-clause-places : goal.find_least-requires-clause-places
find_least-requires-clause-places c =
    enough c.in-Least.values.items c.in_ok-with_nulls-in-Least.field-0.items c.args.groups Null c.args.places.now c.in_ok-with_nulls-in-Least.ensures c.requires.places

pub returns-in_ok-values-in-Least : goal.returns-in_ok-values-in-Least
returns-in_ok-values-in-Least c =
    least_more c.args.self c.args.places.now (run_vals c.args.run) c.args.groups c.in-Least.place c.in-Least.values c.in_ok-with_nulls-in-Least.field-0 c.in_ok-values-in-Least.values c.in-Least.is c.in_ok-with_nulls-in-Least.ensures c.in_ok-values-in-Least.ensures.long c.in_ok-values-in-Least.ensures.more

pub find_greatest-requires-clause-places : goal.find_greatest-requires-clause-places
find_greatest-requires-clause-places c =
    enough c.in-Greatest.values.items c.in_ok-with_nulls-in-Greatest.field-0.items c.args.groups Null c.args.places.now c.in_ok-with_nulls-in-Greatest.ensures c.requires.places

pub returns-in_ok-values-in-Greatest : goal.returns-in_ok-values-in-Greatest
returns-in_ok-values-in-Greatest c =
    greatest_more c.args.self c.args.places.now (run_vals c.args.run) c.args.groups c.in-Greatest.place c.in-Greatest.values c.in_ok-with_nulls-in-Greatest.field-0 c.in_ok-values-in-Greatest.values c.in-Greatest.is c.in_ok-with_nulls-in-Greatest.ensures c.in_ok-values-in-Greatest.ensures.long c.in_ok-values-in-Greatest.ensures.more
