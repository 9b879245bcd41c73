use Rattle.std.proofs.Common.{◌∙◌, ◌<◌, List, [], arith, length, length-set, set, get_or, get_or-set_other, ◌≡◌, refl}
use Rattle.scan_drive.specs.Drives.{NoneOf}
use Rattle.scan_drive.specs.declared.files.ScanFile.{ScanFile}
use Rattle.scan_drive.proofs.Accounting.{awaited_next}
use Rattle.scan_drive.proofs.Balancing.{closed_ledger, closed_balance}
use Rattle.scan_drive.proofs.Filing.{files_ledger, files_ledger_then, files_balance, files_balance_then, idle_at}
use Rattle.scan_drive.proofs.Rounding.{none_agree, agree_set, sources_moved, idle_set}
use Rattle.scan_drive.proofs.drive.close_all.Goals as goal

pub loop-i-preserved : goal.loop-i-preserved
loop-i-preserved g c =
    let source = g.S.SegmentSource.state in
    let inv = c.loop-i.invariant in
    let i = c.loop-i.i in
    let now : List (ScanFile g.row.O.Denot g.row.S.Denot) = c.loop-i.files.items in
    let desks = c.loop-i.desks.items in
    let x : ScanFile g.row.O.Denot g.row.S.Denot = c.index_mut-file.result.now in
    let y : ScanFile g.row.O.Denot g.row.S.Denot = record x { source = c.close.new.source } in
    let lt : i < length now = omega (arith, inv.end, c.loop-i-test.true) in
    let is : x ≡ get_or c.args.files.now.items i x = c.index_mut-file.ensures.value ∙ inv.rest i x (omega arith) in
    record {
      rest = λ k f le. get_or-set_other now i k y f (λ same. omega (arith, le, same)) ∙ inv.rest k f (omega (arith, le));
      desks = λ k le. get_or-set_other desks i k c.close.new.self [] (λ same. omega (arith, le, same)) ∙ inv.desks k (omega (arith, le));
      awaited = awaited_next desks c.args.desks.now.items i c.index_mut-desk.result.now (let n = inv.agree.len in omega (arith, lt, n)) c.index_mut-desk.ensures.value inv.desks inv.awaited c.close.ensures.awaited;
      ledger = λ cache. files_ledger_then source c.args.files.now.items now (set now i y) cache cache cache inv.moves.len (inv.ledger cache)
          (files_ledger source now i x y cache cache lt c.index_mut-file.ensures.value refl (closed_ledger x.source_id (source x.source) (source y.source) cache c.close.ensures.source c.close.ensures.idle));
      balance = λ idle cache report lost. files_balance_then source c.args.files.now.items now (set now i y) cache cache cache report report report lost lost lost inv.moves.len (inv.balance idle cache report lost)
          (files_balance source now i x y cache cache report report lost lost lt c.index_mut-file.ensures.value refl
          (closed_balance x.source_id (source x.source) (source y.source) cache report lost c.close.ensures.source (idle_at source c.args.files.now.items i x (omega (arith, lt, inv.moves.len)) is idle) c.close.ensures.idle));
      end = length-set now i y ∙ inv.end;
      agree = agree_set source now desks i y c.close.new.self inv.agree lt (none_agree (source c.close.new.source).live c.close.new.self c.close.ensures.idle c.close.ensures.empty);
      idle = idle_set source now i y lt inv.idle c.close.ensures.idle;
      moves = sources_moved source NoneOf c.args.files.now.items now i x y inv.moves lt c.index_mut-file.ensures.value refl refl c.close.ensures.source;
    }
