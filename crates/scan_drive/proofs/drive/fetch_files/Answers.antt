use Rattle.std.proofs.Common.{◌<◌, ◌+◌, ℕ, List, ap, arith, drop, false, length, set, refl, subst}
use Rattle.scan_drive.specs.Desks.{Waiters}
use Rattle.scan_drive.specs.Drives.{NoneOf}
use Rattle.scan_drive.specs.Grounds.{MayCome, MayFail}
use Rattle.scan_drive.specs.Slots.{slot_at}
use Rattle.scan_drive.specs.Sources.{NoId}
use Rattle.scan_drive.specs.declared.files.ScanFile.{ScanFile}
use Rattle.scan_drive.specs.declared.slot.Slot.{Slot}
use Rattle.scan_drive.proofs.Asking.{moves_weaker}
use Rattle.scan_drive.proofs.Bringing.{PolledBut, all_polled, none_polled, places, places_end, places_next, polled_more}
use Rattle.scan_drive.proofs.Filing.{files_balance_self}
use Rattle.scan_drive.proofs.Following.{each_self}
use Rattle.scan_drive.proofs.Keeping.{keeps_refl}
use Rattle.scan_drive.proofs.Losing.{files_counts, files_counts_then, halts_advance}
use Rattle.scan_drive.proofs.Nearing.{all_refl, all_then}
use Rattle.scan_drive.proofs.Rounding.{agree_set, linked_at, linked_set, sources_moved, sources_self, slots_kept}
use Rattle.scan_drive.proofs.Serving.{loses_self, polled_next}
use Rattle.scan_drive.proofs.Trading.{files_self, files_set, files_then}
use Rattle.scan_drive.proofs.drive.fetch_files.Goals as goal

pub loop-i-preserved : goal.loop-i-preserved
loop-i-preserved g c =
    let source = g.S.SegmentSource.state in
    let cache = g.C.KeyedSegmentCache.cache in
    let inv = c.loop-i.invariant in
    let i = c.loop-i.i in
    let k = c.index.result.now.1 in
    let slots0 : List (Slot g.row.W.Denot g.row.W-Rows.Denot) = c.args.slots.now.items in
    let slots : List (Slot g.row.W.Denot g.row.W-Rows.Denot) = c.loop-i.slots.items in
    let files0 : List (ScanFile g.row.O.Denot g.row.S.Denot) = c.args.files.now.items in
    let files : List (ScanFile g.row.O.Denot g.row.S.Denot) = c.loop-i.files.items in
    let desks : List Waiters = c.loop-i.desks.items in
    let found = c.in_ok-found.found.items in
    let ilt : i < length found = omega (arith, c.loop-i-test.true, c.len-i-end.ensures, c.in_ok-found.found.ok.0) in
    let klt : k < length files = (let w = c.in_ok-found.ensures.within i c.index.result.now ilt in let e = ap (λ (p : ℕ × ℕ). p.1) c.index.ensures in omega (arith, w, e, inv.sources.len, c.requires.to)) in
    let x : ScanFile g.row.O.Denot g.row.S.Denot = c.index_mut-file.result.now in
    let y : ScanFile g.row.O.Denot g.row.S.Denot = record x { source = c.fetch.new.source } in
    let new : List (Slot g.row.W.Denot g.row.W-Rows.Denot) = c.fetch.new.slots.items in
    let dlt : k < length desks = omega (arith, inv.agree.len, klt) in
    let d = c.index_mut-desk.result.now in
    let ok = c.in_ok-fetch.ensures in
    let here = linked_at desks k d slots inv.links dlt c.index_mut-desk.ensures.value in
    let then = ok.polls.links k here in
    record {
      agree = agree_set source files desks k y c.fetch.new.desk inv.agree klt c.fetch.ensures.agree;
      sources = sources_moved source NoneOf files0 files k x y inv.sources klt c.index_mut-file.ensures.value refl refl (moves_weaker NoId (NoneOf k) (source x.source) (source y.source) (λ id n. n) c.fetch.ensures.source);
      trades = files_then source files0 files (set files k y) (cache c.args.cache.now) (cache c.loop-i.cache) (cache c.fetch.new.cache) inv.trades
          (files_set source files k x y (cache c.loop-i.cache) (cache c.fetch.new.cache) klt c.index_mut-file.ensures.value refl c.fetch.ensures.source.holds c.fetch.ensures.trades);
      counts = files_counts_then source files0 files (set files k y) (cache c.args.cache.now) (cache c.loop-i.cache) (cache c.fetch.new.cache) slots new inv.trades.len (halts_advance g.W.SplitWork.split slots new ok.polls.advances) inv.counts
          (files_counts source files k x y (cache c.loop-i.cache) (cache c.fetch.new.cache) new klt c.index_mut-file.ensures.value refl ok.polls.counts);
      keeps = slots_kept source g.W.SplitWork.split g.W.SplitWork.comes g.W.SplitWork.items files0 files slots0 slots new k x inv.sources inv.keeps klt c.index_mut-file.ensures.value ok.polls.keeps then.1;
      links = linked_set desks k c.fetch.new.desk slots new inv.links dlt then.0 then.1;
      follows = polled_next source (cache c.args.cache.now) (cache c.args.cache.now) NoneOf files0 files k x y slots0 slots new (loses_self (cache c.args.cache.now)) inv.sources klt c.index_mut-file.ensures.value refl refl c.fetch.ensures.source then.1 ok.polls.follows inv.follows;
      advances = all_then g.W.SplitWork.split slots0 slots new inv.advances ok.polls.advances;
      nearer = polled_more source g.W.SplitWork.split (places found) (places (drop (i + 1) found)) k files0 files c.args.desks.now.items desks slots0 slots new x y d c.fetch.new.desk klt dlt c.index_mut-file.ensures.value c.index_mut-desk.ensures.value
          c.fetch.ensures.source.turns inv.advances ok.polls.advances ok.nearer
          (subst (λ (xs : List ℕ). PolledBut source g.W.SplitWork.split (places found) xs files0 files c.args.desks.now.items desks slots0 slots) (places_next found i c.index.result.now ilt c.index.ensures) inv.nearer);
    }

pub returns-in_err-fetch-clause-sources : goal.returns-in_err-fetch-clause-sources
returns-in_err-fetch-clause-sources g c =
    let source = g.S.SegmentSource.state in
    let inv = c.loop-i.invariant in
    let i = c.loop-i.i in
    let k = c.index.result.now.1 in
    let files0 : List (ScanFile g.row.O.Denot g.row.S.Denot) = c.args.files.now.items in
    let files : List (ScanFile g.row.O.Denot g.row.S.Denot) = c.loop-i.files.items in
    let found = c.in_ok-found.found.items in
    let ilt : i < length found = omega (arith, c.loop-i-test.true, c.len-i-end.ensures, c.in_ok-found.found.ok.0) in
    let klt : k < length files = (let w = c.in_ok-found.ensures.within i c.index.result.now ilt in let e = ap (λ (p : ℕ × ℕ). p.1) c.index.ensures in omega (arith, w, e, inv.sources.len, c.requires.to)) in
    let x : ScanFile g.row.O.Denot g.row.S.Denot = c.index_mut-file.result.now in
    let y : ScanFile g.row.O.Denot g.row.S.Denot = record x { source = c.fetch.new.source } in
    sources_moved source NoneOf files0 files k x y inv.sources klt c.index_mut-file.ensures.value refl refl (moves_weaker NoId (NoneOf k) (source x.source) (source y.source) (λ id n. n) c.fetch.ensures.source)

pub returns-in_err-fetch-clause-trades : goal.returns-in_err-fetch-clause-trades
returns-in_err-fetch-clause-trades g c =
    let source = g.S.SegmentSource.state in
    let cache = g.C.KeyedSegmentCache.cache in
    let inv = c.loop-i.invariant in
    let i = c.loop-i.i in
    let k = c.index.result.now.1 in
    let files0 : List (ScanFile g.row.O.Denot g.row.S.Denot) = c.args.files.now.items in
    let files : List (ScanFile g.row.O.Denot g.row.S.Denot) = c.loop-i.files.items in
    let found = c.in_ok-found.found.items in
    let ilt : i < length found = omega (arith, c.loop-i-test.true, c.len-i-end.ensures, c.in_ok-found.found.ok.0) in
    let klt : k < length files = (let w = c.in_ok-found.ensures.within i c.index.result.now ilt in let e = ap (λ (p : ℕ × ℕ). p.1) c.index.ensures in omega (arith, w, e, inv.sources.len, c.requires.to)) in
    let x : ScanFile g.row.O.Denot g.row.S.Denot = c.index_mut-file.result.now in
    let y : ScanFile g.row.O.Denot g.row.S.Denot = record x { source = c.fetch.new.source } in
    files_then source files0 files (set files k y) (cache c.args.cache.now) (cache c.loop-i.cache) (cache c.fetch.new.cache) inv.trades
    (files_set source files k x y (cache c.loop-i.cache) (cache c.fetch.new.cache) klt c.index_mut-file.ensures.value refl c.fetch.ensures.source.holds c.fetch.ensures.trades)

pub fetch-requires-clause-links : goal.fetch-requires-clause-links
fetch-requires-clause-links g c κs lives =
    let inv = c.loop-i.invariant in
    let i = c.loop-i.i in
    let k = c.index.result.now.1 in
    let found = c.in_ok-found.found.items in
    let ilt : i < length found = omega (arith, c.loop-i-test.true, c.len-i-end.ensures, c.in_ok-found.found.ok.0) in
    let klt : k < length c.loop-i.files.items = (let w = c.in_ok-found.ensures.within i c.index.result.now ilt in let e = ap (λ (p : ℕ × ℕ). p.1) c.index.ensures in omega (arith, w, e, inv.sources.len, c.requires.to)) in
    let dlt : k < length c.loop-i.desks.items = omega (arith, inv.agree.len, klt) in
    (k, linked_at c.loop-i.desks.items k c.index_mut-desk.result.now c.loop-i.slots.items inv.links dlt c.index_mut-desk.ensures.value)

pub returns-in_err-found-clause-trades : goal.returns-in_err-found-clause-trades
returns-in_err-found-clause-trades g c = files_self g.S.SegmentSource.state c.args.files.now.items (g.C.KeyedSegmentCache.cache c.args.cache.now)

pub returns-in_err-found-clause-sources : goal.returns-in_err-found-clause-sources
returns-in_err-found-clause-sources g c = sources_self g.S.SegmentSource.state NoneOf c.args.files.now.items

pub loop-i-init : goal.loop-i-init
loop-i-init g c =
    let source = g.S.SegmentSource.state in
    let split = g.W.SplitWork.split in
    let cache = g.C.KeyedSegmentCache.cache c.args.cache.now in
    let files = c.args.files.now.items in
    let slots = c.args.slots.now.items in
    record {
      agree = c.requires.agree;
      sources = sources_self source NoneOf files;
      trades = files_self source files cache;
      counts = record { failed = false; keeps = λ report lost. files_balance_self source files cache report lost; halted = λ h. absurd cc };
      keeps = λ f p store place told. keeps_refl split g.W.SplitWork.comes g.W.SplitWork.items p store (slot_at slots place);
      links = c.requires.links;
      follows = each_self (MayCome source cache files files) (MayFail source files files) slots;
      advances = all_refl split slots;
      nearer = none_polled source split (places c.in_ok-found.found.items) files c.args.desks.now.items slots;
    }

pub returns-clause-fetches : goal.returns-clause-fetches
returns-clause-fetches g c =
    let found = c.in_ok-found.found.items in
    let inv = c.loop-i.invariant in
    record {
      counts = inv.counts;
      keeps = inv.keeps;
      links = inv.links;
      follows = inv.follows;
      advances = inv.advances;
      nearer = λ k from to. all_polled g.S.SegmentSource.state g.W.SplitWork.split (places found) (places (drop c.loop-i.i found)) c.args.files.now.items c.loop-i.files.items c.args.desks.now.items c.loop-i.desks.items c.args.slots.now.items c.loop-i.slots.items
          (places_end found c.loop-i.i (omega (arith, c.loop-i-test.false, c.len-i-end.ensures, c.in_ok-found.found.ok.0))) inv.nearer k (c.in_ok-found.ensures.all k from to);
    }
