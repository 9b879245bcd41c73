use Rattle.std.proofs.Common.{◌≡◌, ℕ, ap, sym, subst, rules}
use Rattle.std.specs.Prelude.{IfErr, IfOk}
use Rattle.std.proofs.lemmas.Result.{err_from_is_err_and, IfErr-weaker}
use Rattle.scan_expr.specs.declared.request.ScanRequest.{ScanRequest}
use Rattle.scan_groups.specs.Rows.{AreGroups, IsPast}
use Rattle.scan_groups.specs.Running.{HasGroupsCause}
use Rattle.scan_groups.specs.declared.fault.GroupsFault.{GroupsFault}
use Rattle.scan_multi.specs.Output.{OutputData}
use Rattle.scan_multi.specs.Scans.{IsRefusedFor, IsScan, ScanMoves}
use Rattle.scan_table.specs.Faults.{of_groups}
use Rattle.scan_table.specs.Scans.{IsTableRefusedFor}
use Rattle.scan_table.specs.Spec.{all_measured, key_count}
use Rattle.scan_table.specs.Totalled.{AreKeyed, chunk_rows}
use Rattle.scan_table.proofs.Concluding.{groups_not_memory, is_table, moved, never_memory, not_memory, refused_groups, refused_scan, refused_table, scan_never, still, under}
use Rattle.scan_table.proofs.scan.scan_table.Goals as goal

pub scan_columns_of-requires : goal.scan_columns_of-requires
scan_columns_of-requires g c = let idle = c.requires in search (rules, idle)

-- ---- a table with a fault
pub returns-in_err-request-clause-ok : goal.returns-in_err-request-clause-ok
returns-in_err-request-clause-ok g c = let p = err_from_is_err_and c.from_residual.result c.from_residual.ensures.1 in rw (p.1) tt

pub returns-in_err-request-clause-err : goal.returns-in_err-request-clause-err
returns-in_err-request-clause-err g c =
    let p = err_from_is_err_and c.from_residual.result c.from_residual.ensures.1 in
    rw (p.1, p.2)
    (refused_table g.O.LayoutReaderFactory.opener g.S.SegmentSource.state c.args.workers c.args.dtype.now c.args.spec.now c.args.files.now.items c.args.files.now.items
    (g.C.KeyedSegmentCache.cache c.args.cache.now) (g.C.KeyedSegmentCache.cache c.args.cache.now) _ c.in_err-request.ensures.err)

pub returns-in_err-request-clause-moves : goal.returns-in_err-request-clause-moves
returns-in_err-request-clause-moves g c =
    still g.O.LayoutReaderFactory.opener g.S.SegmentSource.state c.args.workers c.args.dtype.now c.args.spec.now c.args.files.now.items (g.C.KeyedSegmentCache.cache c.args.cache.now) c.requires

pub returns-in_err-request-clause-never : goal.returns-in_err-request-clause-never
returns-in_err-request-clause-never g c =
    let p = err_from_is_err_and c.from_residual.result c.from_residual.ensures.1 in
    not_memory c.from_residual.result p.0 p.1 (rw (p.2) (never_memory c.args.workers c.args.dtype.now c.args.spec.now _ c.in_err-request.ensures.err))

-- ---- a scan that was refused
pub returns-in_err-output-clause-ok : goal.returns-in_err-output-clause-ok
returns-in_err-output-clause-ok g c = let p = err_from_is_err_and c.from_residual-in_err-output.result c.from_residual-in_err-output.ensures.1 in rw (p.1) tt

pub returns-in_err-output-clause-err : goal.returns-in_err-output-clause-err
returns-in_err-output-clause-err g c =
    let opener = g.O.LayoutReaderFactory.opener in
    let source = g.S.SegmentSource.state in
    let before = g.C.KeyedSegmentCache.cache c.args.cache.now in
    let after = g.C.KeyedSegmentCache.cache c.scan_columns_of.new.cache in
    let old = c.args.files.now.items in
    let new = c.scan_columns_of.new.files.items in
    let f = c.in_err-output.field-0.0 in
    let refused = subst (λ (q : ScanRequest). IsRefusedFor opener source c.args.workers c.args.dtype.now q old new before after f) c.in_ok-request.ensures.ok.0 c.in_err-output.ensures.err in
    let p = err_from_is_err_and c.from_residual-in_err-output.result c.from_residual-in_err-output.ensures.1 in
    rw (p.1, p.2) (refused_scan opener source c.args.workers c.args.dtype.now c.args.spec.now old new before after c.in_ok-request.ensures.ok.1 f refused)

pub returns-in_err-output-clause-moves : goal.returns-in_err-output-clause-moves
returns-in_err-output-clause-moves g c =
    let opener = g.O.LayoutReaderFactory.opener in
    let source = g.S.SegmentSource.state in
    let before = g.C.KeyedSegmentCache.cache c.args.cache.now in
    let after = g.C.KeyedSegmentCache.cache c.scan_columns_of.new.cache in
    let old = c.args.files.now.items in
    let new = c.scan_columns_of.new.files.items in
    let moves = subst (λ (q : ScanRequest). ScanMoves opener source c.args.workers c.args.dtype.now q old new before after) c.in_ok-request.ensures.ok.0 c.scan_columns_of.ensures.moves in
    moved opener source c.args.workers c.args.dtype.now c.args.spec.now old new before after c.in_ok-request.ensures.ok.1 moves

pub returns-in_err-output-clause-never : goal.returns-in_err-output-clause-never
returns-in_err-output-clause-never g c =
    let p = err_from_is_err_and c.from_residual-in_err-output.result c.from_residual-in_err-output.ensures.1 in
    not_memory c.from_residual-in_err-output.result p.0 p.1 (rw (p.2) (scan_never c.in_err-output.field-0.0))

-- ---- the groups of what a scan gave
pub returns-clause-ok : goal.returns-clause-ok
returns-clause-ok g c =
    let opener = g.O.LayoutReaderFactory.opener in
    let source = g.S.SegmentSource.state in
    let before = g.C.KeyedSegmentCache.cache c.args.cache.now in
    let after = g.C.KeyedSegmentCache.cache c.scan_columns_of.new.cache in
    let old = c.args.files.now.items in
    let new = c.scan_columns_of.new.files.items in
    let d = c.args.dtype.now in
    let s = c.args.spec.now in
    let out : OutputData = c.in_ok-output.output in
    let scanned = subst (λ (q : ScanRequest). IsScan opener source c.args.workers d q old new before after out) c.in_ok-request.ensures.ok.0 c.in_ok-output.ensures.ok in
    let same = ap (λ (o : OutputData). o.chunks) c.output.view_is in
    let rows = subst (λ cs. AreKeyed (key_count s) cs → IfOk c.table_of.result (λ t. AreGroups (key_count s) (all_measured s) (chunk_rows (key_count s) cs) t.groups.items
    × ((i : ℕ) → IsPast (all_measured s) (chunk_rows (key_count s) cs) i → ⊥))) same c.table_of.ensures.ok in
    under c.table_of.result _ _ _ (λ t h. is_table opener source c.args.workers d s old new before after c.in_ok-request.ensures.ok.1 out scanned t.groups.items h) rows

pub returns-clause-err : goal.returns-clause-err
returns-clause-err g c =
    let opener = g.O.LayoutReaderFactory.opener in
    let source = g.S.SegmentSource.state in
    let before = g.C.KeyedSegmentCache.cache c.args.cache.now in
    let after = g.C.KeyedSegmentCache.cache c.scan_columns_of.new.cache in
    let old = c.args.files.now.items in
    let new = c.scan_columns_of.new.files.items in
    let d = c.args.dtype.now in
    let s = c.args.spec.now in
    let out : OutputData = c.in_ok-output.output in
    let scanned = subst (λ (q : ScanRequest). IsScan opener source c.args.workers d q old new before after out) c.in_ok-request.ensures.ok.0 c.in_ok-output.ensures.ok in
    let same = ap (λ (o : OutputData). o.chunks) c.output.view_is in
    let why = subst (λ cs. IfErr c.table_of.result (λ e. (f : GroupsFault) × (e ≡ of_groups f) × (AreKeyed (key_count s) cs → HasGroupsCause (all_measured s) (chunk_rows (key_count s) cs) f))) same c.table_of.ensures.err in
    IfErr-weaker c.table_of.result _ _
    (λ e h. subst (IsTableRefusedFor opener source c.args.workers d s old new before after) (sym h.1)
    (refused_groups opener source c.args.workers d s old new before after c.in_ok-request.ensures.ok.1 out scanned h.0 h.2)) why

pub returns-clause-moves : goal.returns-clause-moves
returns-clause-moves g c =
    let opener = g.O.LayoutReaderFactory.opener in
    let source = g.S.SegmentSource.state in
    let before = g.C.KeyedSegmentCache.cache c.args.cache.now in
    let after = g.C.KeyedSegmentCache.cache c.scan_columns_of.new.cache in
    let old = c.args.files.now.items in
    let new = c.scan_columns_of.new.files.items in
    let moves = subst (λ (q : ScanRequest). ScanMoves opener source c.args.workers c.args.dtype.now q old new before after) c.in_ok-request.ensures.ok.0 c.scan_columns_of.ensures.moves in
    moved opener source c.args.workers c.args.dtype.now c.args.spec.now old new before after c.in_ok-request.ensures.ok.1 moves

pub returns-clause-never : goal.returns-clause-never
returns-clause-never g c = groups_not_memory _ c.table_of.result c.table_of.ensures.err
