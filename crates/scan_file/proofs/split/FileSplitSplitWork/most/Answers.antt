use Rattle.std.proofs.Common.{◌≡◌, length, ap, arith}
use Rattle.scan_plans.specs.Futures.{known_rows}
use Rattle.scan_file.proofs.Counted.{rows_most}
use Rattle.scan_file.proofs.split.FileSplitSplitWork.most.Goals as goal

pub returns : goal.returns
returns c store =
    let f = c.args.self.now.future in
    let h = rows_most f store in
    let e : length c.in_ok-numbers.numbers.items ≡ length (known_rows f) = ap length c.in_ok-numbers.ensures in
    omega (arith, h, e, c.len.ensures, c.max.ensures, c.in_ok-numbers.numbers.ok.0)
