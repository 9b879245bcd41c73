use Rattle.std.proofs.Common.{◌≡◌, ◌<◌, ◌^◌, Some, false, rules}
use Rattle.vortex_scan.specs.Core.RowRanges.{is_past}
use Rattle.uses.proofs.Matched.{range_read, range_right, within_read}
use Rattle.uses.proofs.by_settings.values_of_range.Goals as goal

pub prepare-requires-clause-over : goal.prepare-requires-clause-over
prepare-requires-clause-over g c = let is = c.in_any_order-settings.ensures in rw is (record { over = c.requires.over; passes = tt; splits = tt })

pub prepare-requires-clause-right : goal.prepare-requires-clause-right
prepare-requires-clause-right g c =
    let state = g.R.LayoutReader.state c.args.reader.now in
    let settings = c.in_any_order-settings.result in
    let within : is_past (Some c.args.range) state.rows ≡ false = search rules in
    let small : state.rows < 2 ^ 64 = search rules in
    range_right c.args.reader.now c.args.projection c.args.range settings.step settings state.rows c.in_any_order-settings.ensures within small

pub returns-clause-values : goal.returns-clause-values
returns-clause-values g c =
    let state = g.R.LayoutReader.state in
    let settings = c.in_any_order-settings.result in
    let within : is_past (Some c.args.range) (state c.args.reader.now).rows ≡ false = search rules in
    range_read c.splits_give_what_is_asked.ensures state c.args.reader.now c.args.projection c.args.range c.requires.over within settings.step settings c.in-Ok.scan (g.S.SegmentSource.state c.args.source.now).holds
    (λ v. v.items) c.read_scan.result c.in_any_order-settings.ensures c.in-Ok.ensures.prepared c.in-Ok.ensures.stands c.read_scan.ensures.read

pub returns-clause-within : goal.returns-clause-within
returns-clause-within g c =
    let state = g.R.LayoutReader.state c.args.reader.now in
    let within : is_past (Some c.args.range) state.rows ≡ false = search rules in
    within_read c.args.range state.rows c.read_scan.result within
