use Rattle.std.proofs.Common.{◌+◌, ◌<◌, ◌∷◌, ◌≡◌, ◌∙◌, List, ℕ, drop, length, arith, subst, sym, ap, refl}
use Rattle.scan_segments.specs.declared.segment.SegmentKey.{SegmentKey}
use Rattle.scan_drive.specs.Drivings.{IsKeptIn}
use Rattle.scan_drive.specs.Ledger.{KeepsReport}
use Rattle.scan_drive.specs.Links.{Among}
use Rattle.scan_drive.specs.Slots.{stage_waits}
use Rattle.scan_drive.specs.Sources.{NoId}
use Rattle.scan_drive.specs.Trades.{Trades, Trusts}
use Rattle.scan_drive.specs.declared.slot.Slot.{Slot}
use Rattle.scan_drive.proofs.Asking.{moves_self, moves_then, moves_weaker, among_at, among_one}
use Rattle.scan_drive.proofs.Balancing.{report_self, report_then}
use Rattle.scan_drive.proofs.Following.{follows_self}
use Rattle.scan_drive.proofs.Handing.{among_head, drop_next}
use Rattle.scan_drive.proofs.Handover.{Wanting, wanting_all, wanting_next, wants_advances, wants_keeps}
use Rattle.scan_drive.proofs.Keeping.{keeps_refl, keeps_then}
use Rattle.scan_drive.proofs.Nearing.{advances_refl, advances_then}
use Rattle.scan_drive.proofs.Serving.{loses_self, loses_then, wants_then}
use Rattle.scan_drive.proofs.Trading.{trades_self, trades_then}
use Rattle.scan_drive.proofs.wants.want_all.Goals as goal

pub loop-id-preserved : goal.loop-id-preserved
loop-id-preserved g c =
    let state = g.S.SegmentSource.state in
    let cache = g.C.KeyedSegmentCache.cache in
    let inv = c.loop-id.invariant in
    let i = c.loop-id.id-index in
    let ids = c.args.ids.now in
    let id = c.id-item.result in
    let place = c.args.place in
    let name = c.args.key.now.source_id in
    let key : SegmentKey = record { source_id = c.loop-id.key.source_id; segment = id } in
    let old : Slot g.row.W.Denot g.row.W-Rows.Denot = c.args.slot.now in
    let now : Slot g.row.W.Denot g.row.W-Rows.Denot = c.loop-id.slot in
    let new : Slot g.row.W.Denot g.row.W-Rows.Denot = c.want_one.new.slot in
    let lt : i < length ids = omega (arith, c.loop-id-test.true) in
    let w : Wanting (id ∷ drop (i + 1) ids) place now c.args.desk.now c.loop-id.desk = subst (λ (rest : List ℕ). Wanting rest place now c.args.desk.now c.loop-id.desk) (drop_next ids i id lt ∙ ap (λ (x : ℕ). x ∷ drop (i + 1) ids) (sym c.id-item.is)) inv.wanting in
    let takes : stage_waits now.stage id ≡ Rattle.std.proofs.Common.true = (w.todo id (among_head id (drop (i + 1) ids))).1 in
    let there : Among ids id = subst (λ (x : ℕ). Among ids x) (sym c.id-item.is) (among_at ids i id lt) in
    let trade : Trades name (state c.loop-id.source) (state c.want_one.new.source) (cache c.loop-id.cache) (cache c.want_one.new.cache) =
    subst (λ (n : List ℕ). Trades n (state c.loop-id.source) (state c.want_one.new.source) (cache c.loop-id.cache) (cache c.want_one.new.cache)) inv.name c.want_one.ensures.trades in
    record {
      agree = c.want_one.ensures.agree;
      name = inv.name;
      moves = moves_then (Among ids) (state c.args.source.now) (state c.loop-id.source) (state c.want_one.new.source) inv.moves
          (moves_weaker (Among (id ∷ Rattle.std.proofs.Common.[])) (Among ids) (state c.loop-id.source) (state c.want_one.new.source) (among_one ids id there) c.want_one.ensures.source);
      trades = trades_then name (state c.args.source.now) (state c.loop-id.source) (state c.want_one.new.source) (cache c.args.cache.now) (cache c.loop-id.cache) (cache c.want_one.new.cache) inv.moves.holds inv.trades trade;
      balance = report_then name (state c.args.source.now) (state c.loop-id.source) (state c.want_one.new.source) (cache c.args.cache.now) (cache c.loop-id.cache) (cache c.want_one.new.cache) c.args.report.now c.loop-id.report c.want_one.new.report inv.balance
          (subst (λ (n : List ℕ). KeepsReport n (state c.loop-id.source) (state c.want_one.new.source) (cache c.loop-id.cache) (cache c.want_one.new.cache) c.loop-id.report c.want_one.new.report) inv.name c.in_ok-want_one.ensures.balance);
      keeps = λ p store e u. keeps_then g.W.SplitWork.split g.W.SplitWork.comes g.W.SplitWork.items p store old now new (inv.keeps p store e u)
          (wants_keeps g.W.SplitWork.split g.W.SplitWork.comes g.W.SplitWork.items p store key place (cache c.loop-id.cache) now new c.loop-id.desk c.want_one.new.desk takes
          (subst (λ n. Trusts n store (cache c.loop-id.cache)) (sym inv.name) (inv.trades.trusts name store (λ _. e) u)) c.in_ok-want_one.ensures.wants);
      loses = loses_then (cache c.args.cache.now) (cache c.loop-id.cache) (cache c.want_one.new.cache) inv.loses c.in_ok-want_one.ensures.loses;
      follows = wants_then name key place (cache c.args.cache.now) (cache c.loop-id.cache) old now new c.loop-id.desk c.want_one.new.desk inv.name inv.loses c.in_ok-want_one.ensures.wants inv.follows;
      advances = advances_then g.W.SplitWork.split old now new inv.advances (wants_advances g.W.SplitWork.split key place (cache c.loop-id.cache) now new c.loop-id.desk c.want_one.new.desk takes c.in_ok-want_one.ensures.wants);
      wanting = wanting_next key (drop (i + 1) ids) place (cache c.loop-id.cache) now new c.args.desk.now c.loop-id.desk c.want_one.new.desk w c.in_ok-want_one.ensures.wants;
    }

pub returns-in_err-want_one-clause-source : goal.returns-in_err-want_one-clause-source
returns-in_err-want_one-clause-source g c =
    let state = g.S.SegmentSource.state in
    let ids = c.args.ids.now in
    let i = c.loop-id.id-index in
    let id = c.id-item.result in
    let lt : i < length ids = omega (arith, c.loop-id-test.true) in
    let there : Among ids id = subst (λ (x : ℕ). Among ids x) (sym c.id-item.is) (among_at ids i id lt) in
    moves_then (Among ids) (state c.args.source.now) (state c.loop-id.source) (state c.want_one.new.source) c.loop-id.invariant.moves
    (moves_weaker (Among (id ∷ Rattle.std.proofs.Common.[])) (Among ids) (state c.loop-id.source) (state c.want_one.new.source) (among_one ids id there) c.want_one.ensures.source)

pub returns-in_err-want_one-clause-trades : goal.returns-in_err-want_one-clause-trades
returns-in_err-want_one-clause-trades g c =
    let state = g.S.SegmentSource.state in
    let cache = g.C.KeyedSegmentCache.cache in
    let inv = c.loop-id.invariant in
    trades_then c.args.key.now.source_id (state c.args.source.now) (state c.loop-id.source) (state c.want_one.new.source) (cache c.args.cache.now) (cache c.loop-id.cache) (cache c.want_one.new.cache) inv.moves.holds inv.trades
    (subst (λ (n : List ℕ). Trades n (state c.loop-id.source) (state c.want_one.new.source) (cache c.loop-id.cache) (cache c.want_one.new.cache)) inv.name c.want_one.ensures.trades)

pub loop-id-init : goal.loop-id-init
loop-id-init g c =
    let s = g.S.SegmentSource.state c.args.source.now in
    let cache = g.C.KeyedSegmentCache.cache c.args.cache.now in
    let name = c.args.key.now.source_id in
    record {
      agree = c.requires.agree;
      name = refl;
      moves = moves_self (Among c.args.ids.now) s;
      trades = trades_self name s cache;
      balance = report_self name s cache c.args.report.now;
      keeps = λ p store e u. keeps_refl g.W.SplitWork.split g.W.SplitWork.comes g.W.SplitWork.items p store c.args.slot.now;
      loses = loses_self cache;
      follows = follows_self (IsKeptIn cache name) NoId c.args.slot.now;
      advances = advances_refl g.W.SplitWork.split c.args.slot.now;
      wanting = wanting_all c.args.ids.now c.args.place c.args.slot.now c.args.desk.now c.requires.new c.requires.distinct c.requires.takes;
    }

pub returns-clause-wants : goal.returns-clause-wants
returns-clause-wants g c =
    let inv = c.loop-id.invariant in
    record { balance = inv.balance; keeps = inv.keeps; advances = inv.advances; loses = inv.loses; follows = inv.follows }
