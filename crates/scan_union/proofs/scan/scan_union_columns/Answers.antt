use Rattle.std.proofs.Common.{rules, ◌≡◌, ◌≢◌, Some}
use Rattle.std.proofs.lemmas.Result.{err_from_is_err_and, IfOk-weaker, IfErr-weaker}
use Rattle.scan_union.specs.Seats.{IsOpen}
use Rattle.scan_union.proofs.Concluding.{request_refused, nothing_wanted}
use Rattle.scan_union.proofs.Ending.{seated_count, seated_idle, seated_readable}
use Rattle.scan_union.proofs.Moved.{moved_opened, unmoved}
use Rattle.scan_union.proofs.Stopping.{opened_err}
use Rattle.scan_union.proofs.scan.scan_union_columns.Goals as goal

-- ---- a request with a fault
pub returns-in_err-none-clause-ok : goal.returns-in_err-none-clause-ok
returns-in_err-none-clause-ok g c = let p = err_from_is_err_and c.from_residual.result c.from_residual.ensures.1 in rw (p.1) tt

pub returns-in_err-none-clause-err : goal.returns-in_err-none-clause-err
returns-in_err-none-clause-err g c =
    let p = err_from_is_err_and c.from_residual.result c.from_residual.ensures.1 in
    rw (p.1, p.2) (request_refused g.O.LayoutReaderFactory.opener g.S.SegmentSource.state c.args.workers c.args.dtype.now c.args.request.now c.args.files.now.items _ c.in_err-none.ensures.err)

pub returns-in_err-none-clause-moves : goal.returns-in_err-none-clause-moves
returns-in_err-none-clause-moves g c = unmoved g.O.LayoutReaderFactory.opener g.S.SegmentSource.state c.args.workers c.args.dtype.now c.args.request.now c.args.files.now.items c.requires.idle

-- ---- a limit of no rows
pub returns-in-Some-eq0-clause-ok : goal.returns-in-Some-eq0-clause-ok
returns-in-Some-eq0-clause-ok g c =
    let zero-rows : c.args.request.now.limit ≡ Some 0 = search rules in
    nothing_wanted g.O.LayoutReaderFactory.opener g.S.SegmentSource.state c.args.workers c.args.dtype.now c.args.request.now c.args.files.now.items _ zero-rows c.in_ok-none.ensures.ok

pub returns-in-Some-eq0-clause-moves : goal.returns-in-Some-eq0-clause-moves
returns-in-Some-eq0-clause-moves g c = unmoved g.O.LayoutReaderFactory.opener g.S.SegmentSource.state c.args.workers c.args.dtype.now c.args.request.now c.args.files.now.items c.requires.idle

-- ---- files that are not opened
pub returns-in_err-seats-clause-ok : goal.returns-in_err-seats-clause-ok
returns-in_err-seats-clause-ok g c = let p = err_from_is_err_and c.from_residual-in_err-seats.result c.from_residual-in_err-seats.ensures.1 in rw (p.1) tt

pub returns-in_err-seats-clause-err : goal.returns-in_err-seats-clause-err
returns-in_err-seats-clause-err g c =
    let room : c.args.request.now.limit ≢ Some 0 = search rules in
    let p = err_from_is_err_and c.from_residual-in_err-seats.result c.from_residual-in_err-seats.ensures.1 in
    rw (p.1, p.2)
    (opened_err g.O.LayoutReaderFactory.opener g.S.SegmentSource.state c.args.workers c.args.dtype.now c.args.request.now c.args.files.now.items c.open_files.new.files.items c.in_ok-none.ensures.ok.types room c.open_files.ensures.front _
    c.in_err-seats.ensures.err)

pub returns-in_err-seats-clause-moves : goal.returns-in_err-seats-clause-moves
returns-in_err-seats-clause-moves g c =
    let room : c.args.request.now.limit ≢ Some 0 = search rules in
    moved_opened g.O.LayoutReaderFactory.opener g.S.SegmentSource.state c.args.workers c.args.dtype.now c.args.request.now c.args.files.now.items c.open_files.new.files.items c.open_files.ensures.front c.requires.idle c.in_ok-none.ensures.ok.types room

-- ---- opened files
pub scan_seated-requires-clause-idle : goal.scan_seated-requires-clause-idle
scan_seated-requires-clause-idle g c κs within = seated_idle g.O.LayoutReaderFactory.opener g.S.SegmentSource.state c.args.workers c.args.dtype.now c.args.request.now c.args.files.now.items c.open_files.new.files.items c.in_ok-seats.seats.items c.in_ok-seats.ensures.ok c.requires.idle

pub scan_seated-requires-clause-even : goal.scan_seated-requires-clause-even
scan_seated-requires-clause-even g c κs within = seated_count g.O.LayoutReaderFactory.opener g.S.SegmentSource.state c.args.workers c.args.dtype.now c.args.request.now c.args.files.now.items c.open_files.new.files.items c.in_ok-seats.seats.items c.in_ok-seats.ensures.ok

pub scan_seated-requires-clause-readable : goal.scan_seated-requires-clause-readable
scan_seated-requires-clause-readable g c κs within = seated_readable g.O.LayoutReaderFactory.opener g.S.SegmentSource.state c.args.workers c.args.dtype.now c.args.request.now c.args.files.now.items c.open_files.new.files.items c.in_ok-seats.seats.items c.in_ok-seats.ensures.ok

pub returns-clause-ok : goal.returns-clause-ok
returns-clause-ok g c =
    let room : c.args.request.now.limit ≢ Some 0 = search rules in
    let begun : IsOpen g.O.LayoutReaderFactory.opener g.S.SegmentSource.state c.args.workers c.args.dtype.now c.args.request.now c.args.files.now.items = record { types = c.in_ok-none.ensures.ok.types; room = room; idle = c.requires.idle } in
    IfOk-weaker c.scan_seated.result _ _ (λ out h. h c.args.files.now.items c.in_ok-seats.ensures.ok begun) c.scan_seated.ensures.ok

pub returns-clause-err : goal.returns-clause-err
returns-clause-err g c =
    let room : c.args.request.now.limit ≢ Some 0 = search rules in
    let begun : IsOpen g.O.LayoutReaderFactory.opener g.S.SegmentSource.state c.args.workers c.args.dtype.now c.args.request.now c.args.files.now.items = record { types = c.in_ok-none.ensures.ok.types; room = room; idle = c.requires.idle } in
    IfErr-weaker c.scan_seated.result _ _ (λ e h. h c.args.files.now.items c.in_ok-seats.ensures.ok begun) c.scan_seated.ensures.err

pub returns-clause-moves : goal.returns-clause-moves
returns-clause-moves g c =
    let room : c.args.request.now.limit ≢ Some 0 = search rules in
    let begun : IsOpen g.O.LayoutReaderFactory.opener g.S.SegmentSource.state c.args.workers c.args.dtype.now c.args.request.now c.args.files.now.items = record { types = c.in_ok-none.ensures.ok.types; room = room; idle = c.requires.idle } in
    c.scan_seated.ensures.moves c.args.files.now.items c.in_ok-seats.ensures.ok begun
