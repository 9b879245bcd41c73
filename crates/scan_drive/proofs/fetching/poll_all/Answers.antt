use Rattle.std.proofs.Common.{◌+◌, ◌<◌, ◌∷◌, ◌∙◌, List, ℕ, drop, length, arith, subst, sym, ap, refl}
use Rattle.scan_drive.specs.Losses.{KeepsCounts}
use Rattle.scan_drive.specs.Sources.{NoId}
use Rattle.scan_drive.specs.Trades.{Trades}
use Rattle.scan_drive.proofs.Asking.{moves_self, moves_then}
use Rattle.scan_drive.proofs.Bringing.{Fetching, fetching_all, fetching_next, fetching_skip}
use Rattle.scan_drive.proofs.Failing.{source_self, source_then}
use Rattle.scan_drive.proofs.Handing.{drop_next}
use Rattle.scan_drive.proofs.Linking.{told_self, told_then, linked_self, linked_then}
use Rattle.scan_drive.proofs.Losing.{counts_self, counts_then, halts_advance}
use Rattle.scan_drive.proofs.Nearing.{all_refl, all_then}
use Rattle.scan_drive.proofs.Trading.{trades_self, trades_then}
use Rattle.scan_drive.proofs.fetching.poll_all.Goals as goal

pub loop-id-preserved : goal.loop-id-preserved
loop-id-preserved g c =
    let split = g.W.SplitWork.split in
    let state = g.S.SegmentSource.state in
    let cache = g.C.KeyedSegmentCache.cache in
    let inv = c.loop-id.invariant in
    let i = c.loop-id.id-index in
    let ids = c.args.ids.now in
    let id = c.id-item.result in
    let name = c.args.key.now.source_id in
    let old = c.args.slots.now.items in
    let now = c.loop-id.slots.items in
    let s = state c.args.source.now in
    let t = state c.loop-id.source in
    let lt : i < length ids = omega (arith, c.loop-id-test.true) in
    let f : Fetching split ids (id ∷ drop (i + 1) ids) s t c.args.desk.now c.loop-id.desk old now = subst (λ (rest : List ℕ). Fetching split ids rest s t c.args.desk.now c.loop-id.desk old now) (drop_next ids i id lt ∙ ap (λ (x : ℕ). x ∷ drop (i + 1) ids) (sym c.id-item.is)) inv.nearer in
    let u = state c.poll_one.new.source in
    let next = c.poll_one.new.slots.items in
    let ok = c.in_ok-poll_one.ensures in
    record {
      agree = c.poll_one.ensures.agree;
      name = inv.name;
      linked = (inv.linked.0, (ok.polls.links inv.linked.0 inv.linked.1).0);
      moves = moves_then NoId s t u inv.moves c.poll_one.ensures.source;
      trades = trades_then name s t u (cache c.args.cache.now) (cache c.loop-id.cache) (cache c.poll_one.new.cache) inv.moves.holds inv.trades
          (subst (λ (n : List ℕ). Trades n t u (cache c.loop-id.cache) (cache c.poll_one.new.cache)) inv.name c.poll_one.ensures.trades);
      counts = counts_then name s t u (cache c.args.cache.now) (cache c.loop-id.cache) (cache c.poll_one.new.cache) now next (halts_advance split now next ok.polls.advances) inv.counts
          (subst (λ (n : List ℕ). KeepsCounts n t u (cache c.loop-id.cache) (cache c.poll_one.new.cache) next) inv.name ok.polls.counts);
      keeps = told_then split g.W.SplitWork.comes g.W.SplitWork.items s.holds t.holds old now next inv.moves.holds inv.keeps ok.polls.keeps;
      links = linked_then c.args.desk.now c.loop-id.desk c.poll_one.new.desk old now next inv.links ok.polls.links;
      follows = source_then NoId NoId s t u old now next inv.moves c.poll_one.ensures.source inv.follows ok.polls.follows;
      advances = all_then split old now next inv.advances ok.polls.advances;
      nearer = fetching_next split id ids (drop (i + 1) ids) s t u c.args.desk.now c.loop-id.desk c.poll_one.new.desk old now next f c.poll_one.ensures.source.turns ok.waits ok.polls.advances ok.nearer;
    }

pub loop-id-preserved-then-not-is_live : goal.loop-id-preserved-then-not-is_live
loop-id-preserved-then-not-is_live g c =
    let split = g.W.SplitWork.split in
    let state = g.S.SegmentSource.state in
    let inv = c.loop-id.invariant in
    let i = c.loop-id.id-index in
    let ids = c.args.ids.now in
    let id = c.id-item.result in
    let name = c.args.key.now.source_id in
    let old = c.args.slots.now.items in
    let now = c.loop-id.slots.items in
    let s = state c.args.source.now in
    let t = state c.loop-id.source in
    let lt : i < length ids = omega (arith, c.loop-id-test.true) in
    let f : Fetching split ids (id ∷ drop (i + 1) ids) s t c.args.desk.now c.loop-id.desk old now = subst (λ (rest : List ℕ). Fetching split ids rest s t c.args.desk.now c.loop-id.desk old now) (drop_next ids i id lt ∙ ap (λ (x : ℕ). x ∷ drop (i + 1) ids) (sym c.id-item.is)) inv.nearer in
    record {
      agree = inv.agree;
      name = inv.name;
      linked = inv.linked;
      moves = inv.moves;
      trades = inv.trades;
      counts = inv.counts;
      keeps = inv.keeps;
      links = inv.links;
      follows = inv.follows;
      advances = inv.advances;
      nearer = fetching_skip split id ids (drop (i + 1) ids) s t c.args.desk.now c.loop-id.desk old now f (sym c.is_live.ensures ∙ c.if-not-is_live.true);
    }

pub returns-in_err-poll_one-clause-source : goal.returns-in_err-poll_one-clause-source
returns-in_err-poll_one-clause-source g c =
    let state = g.S.SegmentSource.state in
    moves_then NoId (state c.args.source.now) (state c.loop-id.source) (state c.poll_one.new.source) c.loop-id.invariant.moves c.poll_one.ensures.source

pub returns-in_err-poll_one-clause-trades : goal.returns-in_err-poll_one-clause-trades
returns-in_err-poll_one-clause-trades g c =
    let state = g.S.SegmentSource.state in
    let cache = g.C.KeyedSegmentCache.cache in
    let inv = c.loop-id.invariant in
    trades_then c.args.key.now.source_id (state c.args.source.now) (state c.loop-id.source) (state c.poll_one.new.source) (cache c.args.cache.now) (cache c.loop-id.cache) (cache c.poll_one.new.cache) inv.moves.holds inv.trades
    (subst (λ (n : List ℕ). Trades n (state c.loop-id.source) (state c.poll_one.new.source) (cache c.loop-id.cache) (cache c.poll_one.new.cache)) inv.name c.poll_one.ensures.trades)

pub loop-id-init : goal.loop-id-init
loop-id-init g c =
    let split = g.W.SplitWork.split in
    let s = g.S.SegmentSource.state c.args.source.now in
    let cache = g.C.KeyedSegmentCache.cache c.args.cache.now in
    let name = c.args.key.now.source_id in
    let slots = c.args.slots.now.items in
    record {
      agree = c.requires.agree;
      name = refl;
      linked = c.requires.links;
      moves = moves_self NoId s;
      trades = trades_self name s cache;
      counts = counts_self name s cache slots;
      keeps = told_self split g.W.SplitWork.comes g.W.SplitWork.items s.holds slots;
      links = linked_self c.args.desk.now slots;
      follows = source_self s s slots;
      advances = all_refl split slots;
      nearer = fetching_all split c.args.ids.now s c.args.desk.now slots;
    }

pub returns-clause-polls : goal.returns-clause-polls
returns-clause-polls g c =
    let inv = c.loop-id.invariant in
    record { counts = inv.counts; keeps = inv.keeps; links = inv.links; follows = inv.follows; advances = inv.advances }
