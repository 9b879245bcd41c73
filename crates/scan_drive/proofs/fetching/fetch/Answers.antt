use Rattle.std.proofs.Common.{◌≡◌, List, ℕ, true, subst}
use Rattle.std.specs.Prelude.{OnOk}
use Rattle.scan_values.specs.Selections.{is_among}
use Rattle.scan_drive.specs.Fetches.{BringsNearer}
use Rattle.scan_drive.specs.Steps.{PollsSource}
use Rattle.scan_drive.proofs.Bringing.{fetched_nearer}
use Rattle.scan_drive.proofs.Linking.{on_ok}
use Rattle.scan_drive.proofs.Trading.{trades_self}
use Rattle.scan_drive.proofs.fetching.fetch.Goals as goal

pub returns-clause-nearer : goal.returns-clause-nearer
returns-clause-nearer g c =
    on_ok c.poll_all.result (fetched_nearer g.W.SplitWork.split c.in_ok-ids.ids.items (g.S.SegmentSource.state c.args.source.now)
    (g.S.SegmentSource.state c.poll_all.new.source) c.args.desk.now c.args.slots.now.items c.poll_all.new.slots.items c.in_ok-ids.ensures)
    (subst (λ (ids : List ℕ). OnOk c.poll_all.result ((id : ℕ) → is_among ids id ≡ true
    → BringsNearer g.W.SplitWork.split id (g.S.SegmentSource.state c.args.source.now)
    (g.S.SegmentSource.state c.poll_all.new.source) c.args.desk.now c.args.slots.now.items c.poll_all.new.slots.items)) c.deref.ensures.value c.poll_all.ensures.nearer)

pub returns-in_err-ids-clause-trades : goal.returns-in_err-ids-clause-trades
returns-in_err-ids-clause-trades g c = trades_self c.args.name.now (g.S.SegmentSource.state c.args.source.now) (g.C.KeyedSegmentCache.cache c.args.cache.now)

pub returns-in_err-try_clone-clause-trades : goal.returns-in_err-try_clone-clause-trades
returns-in_err-try_clone-clause-trades g c = trades_self c.args.name.now (g.S.SegmentSource.state c.args.source.now) (g.C.KeyedSegmentCache.cache c.args.cache.now)

pub returns-clause-polls : goal.returns-clause-polls
returns-clause-polls g c =
    let state = g.S.SegmentSource.state in
    let cache = g.C.KeyedSegmentCache.cache in
    subst (λ (n : List ℕ). OnOk c.poll_all.result (PollsSource g.W.SplitWork.split g.W.SplitWork.comes g.W.SplitWork.items n (state c.args.source.now) (state c.poll_all.new.source) (cache c.args.cache.now) (cache c.poll_all.new.cache)
    c.args.desk.now c.poll_all.new.desk c.args.slots.now.items c.poll_all.new.slots.items)) c.in_ok-try_clone.ensures c.poll_all.ensures.polls
