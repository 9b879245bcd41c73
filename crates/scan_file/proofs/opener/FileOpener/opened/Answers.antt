use Rattle.std.proofs.Common.{◌≡◌, None, subst, rules}
use Rattle.scan_core.specs.Given.{Rises}
use Rattle.scan_layout.specs.Layout.{rows_of}
use Rattle.scan_file.specs.FileAsks.{FileAsk, IsAsk}
use Rattle.scan_file.specs.Openings.{layout_fault}
use Rattle.scan_file.proofs.Choosing.{not_past}
use Rattle.scan_file.proofs.Parting.{splits_are}
use Rattle.scan_file.proofs.opener.FileOpener.opened.Goals as goal

pub returns-in-Ok : goal.returns-in-Ok
returns-in-Ok c =
    let a = c.args.self.now in
    let l = c.args.layout.now.value in
    let good : layout_fault a l ≡ None = search rules in
    let count : c.row_count.result ≡ rows_of l = search rules in
    let asks = subst IsAsk c.self.view_is c.self.invariant in
    let rises = subst (λ (x : FileAsk). Rises x.selection) c.self.view_is c.rises.ensures in
    (good, splits_are a l c.row_count.result c.in-Ok.splits.items count asks rises (not_past a l good) c.in-Ok.ensures)
