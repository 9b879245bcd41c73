use Rattle.std.proofs.Common.{sym, ◌∙◌}
use Rattle.scan_values.proofs.AllTrue.{by_rank-all, by_rank-kept}
use Rattle.scan_values.proofs.mask.Mask.intersect_by_rank.Goals as goal

pub returns-then-all_true : goal.returns-then-all_true
returns-then-all_true c = rw (by_rank-all c.args.self.now c.args.other.now (sym c.all_true.ensures ∙ c.if-all_true.true) c.requires) c.try_clone.ensures

pub returns-then-all_true-2 : goal.returns-then-all_true-2
returns-then-all_true-2 c = rw (by_rank-kept c.args.self.now c.args.other.now (sym c.all_true-2.ensures ∙ c.if-all_true-2.true) c.requires) c.try_clone-then-all_true-2.ensures
