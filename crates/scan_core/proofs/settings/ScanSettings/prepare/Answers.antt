use Rattle.std.proofs.Common.{◌≡◌, ◌==◌, rules, false}
use Rattle.scan_readers.specs.RowIdxData.{numbered_state}
use Rattle.scan_core.specs.BuilderData.{conjuncts_in}
use Rattle.scan_core.specs.RowRanges.{is_past}
use Rattle.scan_core.specs.SplitMeaning.{IsScanOf, in_turn}
use Rattle.scan_core.proofs.Preparing.{scan_is}
use Rattle.scan_core.proofs.settings.ScanSettings.prepare.Goals as goal

pub new-requires-4 : goal.new-requires-4
new-requires-4 g c =
    let b = c.args.self in
    let s = g.R.LayoutReader.state c.args.reader.now in
    let cs = in_turn (numbered_state b.row_offset s) (conjuncts_in b.filter) in
    let past : is_past b.row_range s.rows ≡ false = search rules in
    let rows : c.row_count-row_count.result ≡ s.rows = search rules in
    let busy : (b.concurrency == 0) ≡ false = search rules in
    let plans : IsScanOf (numbered_state b.row_offset s) cs b.projection c.in_ok-plans-2.plans.value = search rules in
    scan_is s b.row_offset cs b.projection c.in_ok-plans-2.plans.value c.row_count-row_count.result c.in_ok-points.points.value.items b.row_range
    c.in_ok-selection.selection.value b.limit b.ordered b.concurrency c.in_ok-step.step.value rows plans c.in_ok-points.ensures.rising
    c.in_ok-points.ensures.within past busy
