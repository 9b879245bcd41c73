use Rattle.scan_sources.proofs.Stepping.{stepped}
use Rattle.scan_sources.proofs.scan.LayoutReaderScan.next_partition.Goals as goal

pub invariant_of-self-2 : goal.invariant_of-self-2
invariant_of-self-2 c =
    let i = c.self.inside in
    stepped c.args.self.now i.scan i.next_row i.end_row i.split_size i.remaining_limit c.left_after-left.result i.row_limit c.claims_of.new.limit c.next_range-range.result c.self.view_is c.self.invariant c.next_range-range.ensures c.in_ok-claims.ensures.1
