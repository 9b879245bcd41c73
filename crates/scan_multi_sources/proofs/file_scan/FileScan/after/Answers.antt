use Rattle.std.proofs.Common.{◌<◌, arith, length, subst, sym}
use Rattle.scan_multi_sources.proofs.file_scan.FileScan.after.Goals as goal

pub overflow_add-result : goal.overflow_add-result
overflow_add-result g c =
    let within = subst (λ z. c.args.at < length z.window) (sym c.self.view_is) c.requires in
    let count = c.self.invariant.count in
    omega (arith, within, count)
