use Rattle.std.proofs.Common.{◌≤◌, ap, arith}
use Rattle.scan_values.specs.Arrays.{ArrayData}
use Rattle.scan_table.proofs.Rowing.{all_rows, no_rows, run_more}
use Rattle.scan_table.proofs.rows.add_runs.Goals as goal

pub runs-init : goal.runs-init
runs-init c = record { within = omega arith; len = c.len-len.ensures; rows = no_rows c.args.keys c.args.column.now.dtype c.args.column.now.items c.args.groups.now }

pub runs-preserved : goal.runs-preserved
runs-preserved c =
    let keys = c.args.keys in
    let d = c.args.column.now.dtype in
    let vs = c.args.column.now.items in
    let run : ArrayData = c.in_ok-run.run' in
    let is = c.in_ok-run.ensures in
    let le : c.runs.from ≤ c.run_end-to.result = let m = c.run_end-to.ensures.more c.runs-test.true in omega (arith, m) in
    record {
      within = c.run_end-to.ensures.within;
      len = c.runs.invariant.len;
      rows = run_more keys d run.dtype vs run.items c.runs.from c.run_end-to.result c.args.groups.now c.runs.groups c.add_run.new.groups le (ap (λ (x : ArrayData). x.items) is) (ap (λ (x : ArrayData). x.dtype) is)
          c.runs.invariant.rows (λ ms rows h k. c.in_ok-add_run.ensures ms rows h k);
    }

pub returns : goal.returns
returns c = λ ms rows h k.
    let inv = c.runs.invariant in
    all_rows c.args.keys c.args.column.now.dtype c.args.column.now.items c.runs.from c.args.groups.now c.runs.groups (omega (arith, inv.len, c.runs-test.false)) inv.rows ms rows h k
