use Rattle.std.proofs.Common.{nat_eq}
use Rattle.std.proofs.lemmas.List.Filters.{dedup_is}
use Rattle.std.proofs.lemmas.Map.Keys.{IsStrictlyIncreasing-dedup}
use Rattle.scan_splits.proofs.Rising.{same-dedup, same-trans}
use Rattle.scan_splits.proofs.row_splits.RowSplits.into_sorted_deduped.Goals as goal

pub returns-clause-rising : goal.returns-clause-rising
returns-clause-rising c =
    let e = dedup_is nat_eq _ _ c.dedup.ensures.filtered in
    rw e (IsStrictlyIncreasing-dedup c.sorted-rows.result.items c.sorted-rows.ensures.order)

pub returns-clause-same : goal.returns-clause-same
returns-clause-same c =
    let e = dedup_is nat_eq _ _ c.dedup.ensures.filtered in
    rw (← c.self.view_is) (same-trans c.dedup.new.self.items c.sorted-rows.result.items c.self.inside.rows.items (same-dedup c.sorted-rows.result.items c.dedup.new.self.items e) c.sorted-rows.ensures.same)
