use Rattle.std.proofs.Common.{◌≡◌, ◌∙◌, ap, sym, map}
use Rattle.scan_layout.specs.Edges.{segment_ends}
use Rattle.scan_splits.specs.Runs.{runs_of}
use Rattle.scan_splits.proofs.Runs.{runs_again}
use Rattle.scan_splits.proofs.segment_runs.SegmentRuns.made.Goals as goal

pub invariant_of-result : goal.invariant_of-result
invariant_of-result c =
    let again : runs_of 0 c.args.ids.items c.args.ends.items ≡ c.args.segments.now = (λ i. runs_of 0 (c.requires.ids i) (c.requires.ends i)) ∙ runs_again 0 c.args.segments.now in
    record { ids = c.requires.ids ∙ sym (ap (map (λ g. g.0)) again); ends = c.requires.ends ∙ sym (ap (segment_ends 0) again) }

pub returns : goal.returns
returns c = (λ i. runs_of 0 (c.requires.ids i) (c.requires.ends i)) ∙ runs_again 0 c.args.segments.now
