use Rattle.std.proofs.Common.{ap, subst, sym, arith}
use Rattle.scan_streams.specs.Plans.{ReachTo}
use Rattle.scan_core.proofs.Executing.{mask_reaches}
use Rattle.scan_core.proofs.Fewer.{reach_fewer}
use Rattle.scan_core.proofs.repeated.RepeatedScan.array.Goals as goal

pub row_mask-requires : goal.row_mask-requires
row_mask-requires g c = (c.narrowed-picked.ensures.within c.args.self.now.rows c.requires).0

pub future-requires-clause-rows : goal.future-requires-clause-rows
future-requires-clause-rows g c =
    let low = (c.narrowed-picked.ensures.within c.args.self.now.rows c.requires).1 in
    let rows = ap (λ s. s.rows) c.self.view_is in
    let end = c.narrowed-picked.result.end in
    subst (ReachTo end) (sym c.deref-3.ensures) (reach_fewer c.self.inside.plans.value c.self.inside.row_count end (omega (arith, low, rows)) c.self.invariant.plans)

pub future-requires-clause-length : goal.future-requires-clause-length
future-requires-clause-length g c =
    mask_reaches c.args.self.now.rows c.deref-2.result.now c.narrowed-picked.result c.in_ok-mask.mask c.in_ok-mask.ensures (c.narrowed-picked.ensures.within c.args.self.now.rows c.requires)
