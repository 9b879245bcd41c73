use Rattle.std.proofs.Common.{◌≡◌, [], All, IfErr, IfOk, List, length, sym, subst, ap, ◌∙◌}
use Rattle.std.proofs.lemmas.List.Elements.{All-nil}
use Rattle.scan_segments.specs.Cache.{empty_cache}
use Rattle.scan_drive.specs.declared.files.ScanFile.{ScanFile}
use Rattle.scan_multi.specs.Lawful.{IsIdle}
use Rattle.scan_multi.specs.Scans.{IsRefusedFor, IsScan}
use Rattle.scan_union.proofs.Seating.{none_of}
use Rattle.scan_union.proofs.scan.scan_none.Goals as goal

pub scan_columns_of-requires-after_bounds : goal.scan_columns_of-requires-after_bounds
scan_columns_of-requires-after_bounds g c κs within =
    subst (λ (xs : List (ScanFile g.row.O.Denot g.row.S.Denot)). All (IsIdle g.O.LayoutReaderFactory.opener g.S.SegmentSource.state) xs) (sym c.new-none.ensures.items) (All-nil (IsIdle g.O.LayoutReaderFactory.opener g.S.SegmentSource.state))

pub returns-clause-ok : goal.returns-clause-ok
returns-clause-ok g c =
    let opener = g.O.LayoutReaderFactory.opener in
    let source = g.S.SegmentSource.state in
    let old : List (ScanFile g.row.O.Denot g.row.S.Denot) = c.new-none.result.items in
    let new : List (ScanFile g.row.O.Denot g.row.S.Denot) = c.scan_columns_of.new.files.items in
    let none : old ≡ [] = c.new-none.ensures.items in
    let left : new ≡ [] = none_of new (c.scan_columns_of.ensures.moves.count ∙ ap length none) in
    subst (λ (ys : List (ScanFile g.row.O.Denot g.row.S.Denot)). IfOk c.scan_columns_of.result (λ out. IsScan opener source c.args.workers c.args.dtype.now c.args.request.now [] ys empty_cache empty_cache out)) left
    (subst (λ (xs : List (ScanFile g.row.O.Denot g.row.S.Denot)). IfOk c.scan_columns_of.result (λ out. IsScan opener source c.args.workers c.args.dtype.now c.args.request.now xs new empty_cache empty_cache out)) none
    c.scan_columns_of.ensures.ok)

pub returns-clause-err : goal.returns-clause-err
returns-clause-err g c =
    let opener = g.O.LayoutReaderFactory.opener in
    let source = g.S.SegmentSource.state in
    let old : List (ScanFile g.row.O.Denot g.row.S.Denot) = c.new-none.result.items in
    let new : List (ScanFile g.row.O.Denot g.row.S.Denot) = c.scan_columns_of.new.files.items in
    let none : old ≡ [] = c.new-none.ensures.items in
    let left : new ≡ [] = none_of new (c.scan_columns_of.ensures.moves.count ∙ ap length none) in
    subst (λ (ys : List (ScanFile g.row.O.Denot g.row.S.Denot)). IfErr c.scan_columns_of.result (λ e. IsRefusedFor opener source c.args.workers c.args.dtype.now c.args.request.now [] ys empty_cache empty_cache e)) left
    (subst (λ (xs : List (ScanFile g.row.O.Denot g.row.S.Denot)). IfErr c.scan_columns_of.result (λ e. IsRefusedFor opener source c.args.workers c.args.dtype.now c.args.request.now xs new empty_cache empty_cache e)) none
    c.scan_columns_of.ensures.err)
