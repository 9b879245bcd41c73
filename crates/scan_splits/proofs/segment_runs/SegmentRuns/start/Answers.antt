use Rattle.std.proofs.Common.{◌≡◌, ◌∙◌, ◌+◌, ◌-◌, ap, arith}
use Rattle.scan_layout.specs.Edges.{segment_ends}
use Rattle.scan_splits.specs.Runs.{start_of}
use Rattle.scan_splits.proofs.Runs.{end_at, in_ends}
use Rattle.scan_splits.proofs.segment_runs.SegmentRuns.start.Goals as goal

pub index-requires : goal.index-requires
index-requires c =
    let same = c.self.invariant.ends ∙ ap (segment_ends 0) c.self.view_is in
    omega (arith, in_ends c.args.self.now c.self.inside.ends.items same, c.self.inside.ends.ok.0)

pub returns : goal.returns
returns c =
    let same = c.self.invariant.ends ∙ ap (segment_ends 0) c.self.view_is in
    let up : c.args.i - 1 + 1 ≡ c.args.i = omega arith in
    end_at c.args.self.now c.self.inside.ends.items (c.args.i - 1) c.index.result.now same (omega arith) c.index.ensures ∙ ap (start_of c.args.self.now) up
