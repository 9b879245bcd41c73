use Rattle.std.proofs.Common.{◌≡◌, ap, get_or, arith}
use Rattle.scan_table.specs.Spec.{measured_from}
use Rattle.scan_table.proofs.Types.{behind_most, made_more}
use Rattle.scan_table.proofs.table.measured.Goals as goal

pub loop-i-preserved : goal.loop-i-preserved
loop-i-preserved c =
    let i = c.loop-i.i in
    let ms = c.args.measures.now in
    let m = get_or ms i c.index-measures-i.result in
    let is : m ≡ get_or ms i m = ap (get_or ms i) c.index-measures-i.is in
    let b = behind_most c.loop-i.place m.1 in
    record {
      most = omega (arith, c.behind-place.ensures, b, c.loop-i.invariant.most);
      made = made_more c.loop-i.made.items c.push.new.self.items (measured_from 0 ms) ms i c.loop-i.place c.behind-place.result m c.measured.result (omega (arith, c.loop-i-test.true)) is
          c.measured.ensures c.behind-place.ensures c.in_ok-push.ensures.items c.loop-i.invariant.made;
    }
