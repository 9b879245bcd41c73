use Rattle.std.proofs.Common.{◌≡◌, ◌-◌, ap, ◌∙◌}
use Rattle.scan_layout.specs.Check.{total_rows}
use Rattle.scan_plans.specs.OffsetsData.{OffsetsData}
use Rattle.scan_plans.proofs.WholeLists.{some_true, none_true}
use Rattle.scan_plans.proofs.offsets.Offsets.is_whole.Goals as goal

pub returns-then-count-gt0 : goal.returns-then-count-gt0
returns-then-count-gt0 c = λ first.
    let same : c.deref.result.now ≡ (c.args.self.now).segments = c.deref.ensures ∙ ap (λ (x : OffsetsData). x.segments) c.self.view_is in
    let lists : c.saturating_sub.result ≡ total_rows (c.args.self.now).segments - 1 = c.saturating_sub.ensures ∙ ap (λ n. n - 1) (c.row_count.ensures ∙ ap total_rows same) in
    some_true c.args.self.now first c.args.mask.now c.true_count-count.result c.saturating_sub.result c.true_count-count.ensures.count c.if-count-gt0.true lists

pub returns-else-count-gt0 : goal.returns-else-count-gt0
returns-else-count-gt0 c = λ first. none_true c.args.self.now first c.args.mask.now c.true_count-count.result c.true_count-count.ensures.count c.if-count-gt0.false
