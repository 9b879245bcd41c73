use Rattle.std.proofs.Common.{◌≡◌, ◌∙◌, List, ℕ, subst, sym, ap}
use Rattle.scan_drive.specs.Desks.{Waiters}
use Rattle.scan_drive.specs.Fetches.{BringsNearer}
use Rattle.scan_drive.specs.Grounds.{SourceFollows}
use Rattle.scan_drive.specs.Links.{StaysLinked, KeepsTold}
use Rattle.scan_drive.specs.Losses.{HasHalted}
use Rattle.scan_drive.specs.Measures.{EachAdvances}
use Rattle.scan_drive.specs.Steps.{PollsSource}
use Rattle.scan_drive.specs.declared.desk.Reply.TheVariants as reply
use Rattle.scan_drive.specs.Slots.{at_each, handed, given_up}
use Rattle.scan_drive.specs.declared.slot.Halt.TheVariants as halt
use Rattle.scan_drive.specs.declared.slot.Slot.{Slot}
use Rattle.scan_drive.proofs.Bringing.{on_stay, on_ended, came_advances, lost_advances, came_nearer, lost_nearer, pending_nearer}
use Rattle.scan_drive.proofs.Failing.{source_self, source_came, source_lost}
use Rattle.scan_drive.proofs.Linking.{linked_self, on_ok, told_self, told_handed, told_lost, linked_handed, linked_lost, take_all}
use Rattle.scan_drive.proofs.Losing.{counts_reply, has_lost}
use Rattle.scan_drive.proofs.Nearing.{all_refl}
use Rattle.scan_drive.proofs.Trading.{trades_came}
use Rattle.scan_drive.proofs.fetching.poll_one.Goals as goal

pub returns-in-Came-clause-polls : goal.returns-in-Came-clause-polls
returns-in-Came-clause-polls g c =
    let split = g.W.SplitWork.split in
    let comes = g.W.SplitWork.comes in
    let items = g.W.SplitWork.items in
    let name = c.args.key.now.source_id in
    let id = c.args.key.now.segment in
    let d = c.args.desk.now in
    let s = g.S.SegmentSource.state c.args.source.now in
    let t = g.S.SegmentSource.state c.collect.new.source in
    let was = g.C.KeyedSegmentCache.cache c.args.cache.now in
    let cache = g.C.KeyedSegmentCache.cache c.collect.new.cache in
    let slots = c.args.slots.now.items in
    let ps = c.in-Came.places in
    let r = c.in-Came.ensures.replies in
    let file = c.requires.links.0 in
    let links = c.requires.links.1 in
    let once = c.as_slice.ensures.distinct in
    let now : List ℕ → List (Slot g.row.W.Denot g.row.W-Rows.Denot) = λ xs. at_each (handed id c.in-Came.arrival) xs slots in
    let polls : PollsSource split comes items name s t was cache d c.collect.new.self slots (now ps) = record {
      counts = counts_reply name s t was cache (now ps) (reply.Came c.in-Came.arrival ps) c.in-Came.ensures.balance (λ f. absurd cc);
      keeps = told_handed split comes items file s id c.in-Came.arrival ps d slots links r.0 once r.2;
      links = linked_handed id c.in-Came.arrival ps d c.collect.new.self slots r.0 r.1 once;
      follows = source_came file id c.in-Came.arrival ps s t d slots links c.requires.agree r.0 once;
      advances = came_advances split file id c.in-Came.arrival ps d slots links r.0 once;
    } in
    on_ok c.hand.result (λ (e : c.hand.new.slots.items ≡ now c.as_slice.result.now). subst (λ (ss : List (Slot g.row.W.Denot g.row.W-Rows.Denot)). PollsSource split comes items name s t was cache d c.collect.new.self slots ss)
    (sym (e ∙ ap now c.as_slice.ensures.places)) polls) c.hand.ensures

pub returns-in-Failed-clause-polls : goal.returns-in-Failed-clause-polls
returns-in-Failed-clause-polls g c =
    let split = g.W.SplitWork.split in
    let comes = g.W.SplitWork.comes in
    let items = g.W.SplitWork.items in
    let name = c.args.key.now.source_id in
    let id = c.args.key.now.segment in
    let d = c.args.desk.now in
    let s = g.S.SegmentSource.state c.args.source.now in
    let t = g.S.SegmentSource.state c.collect.new.source in
    let was = g.C.KeyedSegmentCache.cache c.args.cache.now in
    let cache = g.C.KeyedSegmentCache.cache c.collect.new.cache in
    let slots = c.args.slots.now.items in
    let ps = c.in-Failed.places in
    let r = c.in-Failed.ensures.replies in
    let file = c.requires.links.0 in
    let links = c.requires.links.1 in
    let shown = c.as_slice-in-Failed.ensures in
    let now : List ℕ → List (Slot g.row.W.Denot g.row.W-Rows.Denot) = λ xs. at_each (given_up (halt.Source id)) xs slots in
    let polls : PollsSource split comes items name s t was cache d c.collect.new.self slots (now ps) = record {
      counts = counts_reply name s t was cache (now ps) (reply.Failed ps) c.in-Failed.ensures.balance
          (λ f. has_lost id (halt.Source id) ps slots (take_all file id ps d slots links r.0) shown.distinct shown.any);
      keeps = told_lost split comes items file s.holds id ps d slots links r.0 shown.distinct;
      links = linked_lost id (halt.Source id) ps d c.collect.new.self slots r.0 r.1 shown.distinct;
      follows = source_lost file id ps s t d slots links c.requires.agree r.0 (r.2, r.3) shown.distinct;
      advances = lost_advances split file id (halt.Source id) ps d slots links r.0 shown.distinct;
    } in
    subst (λ (ss : List (Slot g.row.W.Denot g.row.W-Rows.Denot)). PollsSource split comes items name s t was cache d c.collect.new.self slots ss) (sym (c.lose.ensures ∙ ap now shown.places)) polls

pub returns-in-Pending-clause-polls : goal.returns-in-Pending-clause-polls
returns-in-Pending-clause-polls g c =
    let split = g.W.SplitWork.split in
    let s = g.S.SegmentSource.state c.args.source.now in
    let t = g.S.SegmentSource.state c.collect.new.source in
    let cache = g.C.KeyedSegmentCache.cache in
    let slots = c.args.slots.now.items in
    let r = c.in-Pending.ensures.replies in
    record {
      counts = counts_reply c.args.key.now.source_id s t (cache c.args.cache.now) (cache c.collect.new.cache) slots reply.Pending c.in-Pending.ensures.balance (λ f. absurd cc);
      keeps = told_self split g.W.SplitWork.comes g.W.SplitWork.items s.holds slots;
      links = subst (λ (e : Waiters). StaysLinked c.args.desk.now e slots slots) (sym r.0) (linked_self c.args.desk.now slots);
      follows = source_self s t slots;
      advances = all_refl split slots;
    }

pub returns-in-Came-clause-nearer : goal.returns-in-Came-clause-nearer
returns-in-Came-clause-nearer g c =
    let split = g.W.SplitWork.split in
    let items = g.W.SplitWork.items in
    let id = c.args.key.now.segment in
    let d = c.args.desk.now in
    let s = g.S.SegmentSource.state c.args.source.now in
    let t = g.S.SegmentSource.state c.collect.new.source in
    let slots = c.args.slots.now.items in
    let ps = c.in-Came.places in
    let r = c.in-Came.ensures.replies in
    let file = c.requires.links.0 in
    let links = c.requires.links.1 in
    let once = c.as_slice.ensures.distinct in
    let now : List ℕ → List (Slot g.row.W.Denot g.row.W-Rows.Denot) = λ xs. at_each (handed id c.in-Came.arrival) xs slots in
    on_ok c.hand.result (λ (e : c.hand.new.slots.items ≡ now c.as_slice.result.now). subst (λ (ss : List (Slot g.row.W.Denot g.row.W-Rows.Denot)). BringsNearer split id s t d slots ss)
    (sym (e ∙ ap now c.as_slice.ensures.places)) (came_nearer split file id c.in-Came.arrival ps s t d slots links r.0 once)) c.hand.ensures

pub returns-in-Came-clause-waits : goal.returns-in-Came-clause-waits
returns-in-Came-clause-waits g c =
    let items = g.W.SplitWork.items in
    let id = c.args.key.now.segment in
    let d = c.args.desk.now in
    let slots = c.args.slots.now.items in
    let r = c.in-Came.ensures.replies in
    let now : List ℕ → List (Slot g.row.W.Denot g.row.W-Rows.Denot) = λ xs. at_each (handed id c.in-Came.arrival) xs slots in
    on_ok c.hand.result (λ (e : c.hand.new.slots.items ≡ now c.as_slice.result.now). on_ended id d c.collect.new.self r.1) c.hand.ensures

pub returns-in-Failed-clause-nearer : goal.returns-in-Failed-clause-nearer
returns-in-Failed-clause-nearer g c =
    let split = g.W.SplitWork.split in
    let items = g.W.SplitWork.items in
    let id = c.args.key.now.segment in
    let d = c.args.desk.now in
    let s = g.S.SegmentSource.state c.args.source.now in
    let t = g.S.SegmentSource.state c.collect.new.source in
    let slots = c.args.slots.now.items in
    let ps = c.in-Failed.places in
    let r = c.in-Failed.ensures.replies in
    let file = c.requires.links.0 in
    let links = c.requires.links.1 in
    let once = c.as_slice-in-Failed.ensures.distinct in
    let now : List ℕ → List (Slot g.row.W.Denot g.row.W-Rows.Denot) = λ xs. at_each (given_up (halt.Source id)) xs slots in
    let e : c.lose.new.slots.items ≡ now ps = c.lose.ensures ∙ ap now c.as_slice-in-Failed.ensures.places in
    subst (λ (ss : List (Slot g.row.W.Denot g.row.W-Rows.Denot)). BringsNearer split id s t d slots ss) (sym e) (lost_nearer split file id (halt.Source id) ps s t d slots links r.0 once)

pub returns-in-Failed-clause-waits : goal.returns-in-Failed-clause-waits
returns-in-Failed-clause-waits g c =
    let id = c.args.key.now.segment in
    let d = c.args.desk.now in
    let r = c.in-Failed.ensures.replies in
    on_ended id d c.collect.new.self r.1

pub returns-in-Pending-clause-nearer : goal.returns-in-Pending-clause-nearer
returns-in-Pending-clause-nearer g c =
    let split = g.W.SplitWork.split in
    let id = c.args.key.now.segment in
    let d = c.args.desk.now in
    let s = g.S.SegmentSource.state c.args.source.now in
    let t = g.S.SegmentSource.state c.collect.new.source in
    let slots = c.args.slots.now.items in
    let r = c.in-Pending.ensures.replies in
    pending_nearer split id s t d slots slots r.1

pub returns-in-Pending-clause-waits : goal.returns-in-Pending-clause-waits
returns-in-Pending-clause-waits g c =
    let id = c.args.key.now.segment in
    let d = c.args.desk.now in
    let r = c.in-Pending.ensures.replies in
    on_stay id d c.collect.new.self r.0

pub returns-in-Came-clause-trades : goal.returns-in-Came-clause-trades
returns-in-Came-clause-trades g c =
    trades_came c.args.key.now (g.S.SegmentSource.state c.args.source.now) (g.S.SegmentSource.state c.collect.new.source) c.args.desk.now c.collect.new.self
    (g.C.KeyedSegmentCache.cache c.args.cache.now) (g.C.KeyedSegmentCache.cache c.collect.new.cache) c.collect.result c.collect.ensures.replies c.collect.ensures.puts c.collect.ensures.ledger

pub returns-in-Failed-clause-trades : goal.returns-in-Failed-clause-trades
returns-in-Failed-clause-trades g c =
    trades_came c.args.key.now (g.S.SegmentSource.state c.args.source.now) (g.S.SegmentSource.state c.collect.new.source) c.args.desk.now c.collect.new.self
    (g.C.KeyedSegmentCache.cache c.args.cache.now) (g.C.KeyedSegmentCache.cache c.collect.new.cache) c.collect.result c.collect.ensures.replies c.collect.ensures.puts c.collect.ensures.ledger

pub returns-in-Pending-clause-trades : goal.returns-in-Pending-clause-trades
returns-in-Pending-clause-trades g c =
    trades_came c.args.key.now (g.S.SegmentSource.state c.args.source.now) (g.S.SegmentSource.state c.collect.new.source) c.args.desk.now c.collect.new.self
    (g.C.KeyedSegmentCache.cache c.args.cache.now) (g.C.KeyedSegmentCache.cache c.collect.new.cache) c.collect.result c.collect.ensures.replies c.collect.ensures.puts c.collect.ensures.ledger

pub returns-in-NoMemory-clause-trades : goal.returns-in-NoMemory-clause-trades
returns-in-NoMemory-clause-trades g c =
    trades_came c.args.key.now (g.S.SegmentSource.state c.args.source.now) (g.S.SegmentSource.state c.collect.new.source) c.args.desk.now c.collect.new.self
    (g.C.KeyedSegmentCache.cache c.args.cache.now) (g.C.KeyedSegmentCache.cache c.collect.new.cache) c.collect.result c.collect.ensures.replies c.collect.ensures.puts c.collect.ensures.ledger
