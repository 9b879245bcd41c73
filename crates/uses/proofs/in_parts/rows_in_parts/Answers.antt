use Rattle.vortex_scan.specs.Sources.Requests.{bound_request}
use Rattle.uses.proofs.Covering.{cover_and_give, empty_starts, request_builder, request_within, splits_start, starts_alone}
use Rattle.uses.proofs.in_parts.rows_in_parts.Goals as goal

pub read_parts-requires-clause-own : goal.read_parts-requires-clause-own
read_parts-requires-clause-own g c =
    let state = g.R.LayoutReader.state c.args.source.now.reader in
    let size = c.args.source.now.size in
    let q = bound_request state.dtype c.args.request in
    starts_alone state size q c.in-Splits.parts c.requires.own (splits_start state size q c.in-Ok.scan c.in-Splits.parts c.in-Splits.is c.in-Ok.ensures.scan)

pub returns-in-Empty-clause-parts : goal.returns-in-Empty-clause-parts
returns-in-Empty-clause-parts g c =
    let state = g.R.LayoutReader.state c.args.source.now.reader in
    let size = c.args.source.now.size in
    let q = bound_request state.dtype c.args.request in
    empty_starts state size q c.in-Ok.scan c.in-Empty.rows c.in-Empty.is c.in-Ok.ensures.scan

pub returns-in-Ok-read_parts-clause-parts : goal.returns-in-Ok-read_parts-clause-parts
returns-in-Ok-read_parts-clause-parts g c =
    let state = g.R.LayoutReader.state c.args.source.now.reader in
    let size = c.args.source.now.size in
    let q = bound_request state.dtype c.args.request in
    let law = c.parts_may_be_parted.ensures.bound in
    cover_and_give c.parts_cover_the_scan.ensures c.parts_give_the_first_rows.ensures state size q c.in-Splits.parts c.read_parts.new.scan c.in-Ok-read_parts.read.items (g.S.SegmentSource.state c.args.segments.now).holds
    (request_builder law state size c.args.request c.in-Ok.ensures.fault) c.requires.rises (request_within law state size c.args.request c.in-Ok.ensures.fault) c.requires.own
    (splits_start state size q c.in-Ok.scan c.in-Splits.parts c.in-Splits.is c.in-Ok.ensures.scan) c.in-Ok-read_parts.ensures.parts
