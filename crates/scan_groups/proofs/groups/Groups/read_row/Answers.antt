use Rattle.std.proofs.Common.{◌≡◌, ◌<◌, [], ◌∷◌, length, refl, sym, ap, ◌∙◌, arith}
use Rattle.scan_groups.specs.Cells.{cell_val}
use Rattle.scan_groups.specs.Running.{reads_in, val_in}
use Rattle.scan_groups.specs.Totals.{measured_by, place_read, val_at}
use Rattle.scan_groups.proofs.Totalling.{count_same, reads_there, under_ends, val_as}
use Rattle.scan_groups.proofs.groups.Groups.read_row.Goals as goal

pub loop-measure-init : goal.loop-measure-init
loop-measure-init c = record { count = refl; under = λ keys ms rows row u read. u }

pub index-requires : goal.index-requires
index-requires c = omega (arith, c.loop-measure-test.true, c.len-measure-end.ensures, c.args.self.now.tallies.ok.0, c.loop-measure.invariant.count, c.loop-measure.self.tallies.ok.0)

pub add_run-requires-clause-measure : goal.add_run-requires-clause-measure
add_run-requires-clause-measure c = omega (arith, c.loop-measure-test.true, c.len-measure-end.ensures, c.args.self.now.tallies.ok.0, c.loop-measure.invariant.count)

pub loop-measure-preserved : goal.loop-measure-preserved
loop-measure-preserved c =
    let now = c.loop-measure.self in
    let ts = now.tallies.items in
    let m = c.loop-measure.measure in
    let t = c.index.result.now in
    let lt : m < length ts = omega (arith, c.loop-measure-test.true, c.len-measure-end.ensures, c.args.self.now.tallies.ok.0, c.loop-measure.invariant.count) in
    let one = c.in_ok-add_run.ensures in
    record {
      count = count_same now c.add_run.new.self one.measures ∙ c.loop-measure.invariant.count;
      under = λ keys ms rows row before read.
          let u = c.loop-measure.invariant.under keys ms rows row before read in
          let at : reads_in ms m ≡ c.reads.result =
          ap (λ ns. reads_in ns m) (sym u.measures) ∙ reads_there ts m t lt ∙ sym (c.reads.ensures ∙ ap (λ x. place_read (measured_by x)) c.index.ensures) in
          let is : val_at (reads_in ms m) row ≡ cell_val c.read_at-cell.result =
          ap (λ o. val_at o row) at ∙ val_as c.reads.result row ∙ ap (val_in c.reads.result) read ∙ sym c.read_at-cell.ensures in
          one.reads keys ms rows (row ∷ []) u (ap (λ v. v ∷ []) is);
    }

pub returns : goal.returns
returns c = λ keys ms rows row u read.
    let inv = c.loop-measure.invariant in
    under_ends keys ms rows (row ∷ []) c.args.places.now c.loop-measure.measure c.loop-measure.self (inv.under keys ms rows row u read)
    (omega (arith, inv.count, c.loop-measure-test.false, c.len-measure-end.ensures, c.args.self.now.tallies.ok.0))
