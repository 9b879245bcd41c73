use Rattle.std.proofs.Common.{List, ℕ, subst}
use Rattle.scan_drive.specs.Steps.{WantsAll}
use Rattle.scan_drive.proofs.Trading.{trades_self}
use Rattle.scan_drive.proofs.wants.want_slot.Goals as goal

pub returns-clause-wants : goal.returns-clause-wants
returns-clause-wants g c =
    let state = g.S.SegmentSource.state in
    let cache = g.C.KeyedSegmentCache.cache in
    subst (λ (n : List ℕ). WantsAll g.W.SplitWork.split g.W.SplitWork.comes g.W.SplitWork.items n (state c.args.source.now) (state c.want_all.new.source) (cache c.args.cache.now) (cache c.want_all.new.cache) c.args.report.now c.want_all.new.report c.args.slot.now c.want_all.new.slot)
    c.in_ok-try_clone.ensures c.in_ok-want_all.ensures.wants

pub returns-in_err-ids-clause-trades : goal.returns-in_err-ids-clause-trades
returns-in_err-ids-clause-trades g c = trades_self c.args.name.now (g.S.SegmentSource.state c.args.source.now) (g.C.KeyedSegmentCache.cache c.args.cache.now)

pub returns-in_err-try_clone-clause-trades : goal.returns-in_err-try_clone-clause-trades
returns-in_err-try_clone-clause-trades g c = trades_self c.args.name.now (g.S.SegmentSource.state c.args.source.now) (g.C.KeyedSegmentCache.cache c.args.cache.now)
