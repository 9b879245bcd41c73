use Rattle.std.proofs.Common.{rules, ◌<◌, ◌^◌, inl, arith, refl}
use Rattle.std.proofs.lemmas.Result.{err_from_is_err_and}
use Rattle.scan_union.proofs.Seating.{opens_file, room_of, stops_at}
use Rattle.scan_union.proofs.opening.open_file.Goals as goal

pub overflow_add-rows : goal.overflow_add-rows
overflow_add-rows g c =
    let before : c.args.before < 2 ^ 64 = search rules in
    let room = room_of c.args.dtype.now c.args.range.now c.args.place c.args.before (g.O.LayoutReaderFactory.opener c.args.opener.now) c.in-Ok.under c.in-Ok.ensures.ok before in
    let rows = c.rows_of.ensures in
    omega (arith, room, rows)

pub returns-in_err-seat_of-in-Ok-clause-err : goal.returns-in_err-seat_of-in-Ok-clause-err
returns-in_err-seat_of-in-Ok-clause-err g c =
    let p = err_from_is_err_and c.from_residual.result c.from_residual.ensures.1 in
    rw (p.1, p.2) (inl refl)

pub returns-in_ok-seat_of-in-Ok-clause-ok : goal.returns-in_ok-seat_of-in-Ok-clause-ok
returns-in_ok-seat_of-in-Ok-clause-ok g c =
    let rows = c.rows_of.ensures in
    rw rows (opens_file c.args.dtype.now c.args.range.now c.args.place c.args.before (g.O.LayoutReaderFactory.opener c.args.opener.now) c.in-Ok.under _ c.in-Ok.ensures.ok c.in_ok-seat_of-in-Ok.ensures)

pub returns-in-Err-clause-err : goal.returns-in-Err-clause-err
returns-in-Err-clause-err g c =
    stops_at c.args.dtype.now c.args.range.now c.args.place c.args.before (g.O.LayoutReaderFactory.opener c.args.opener.now) (g.O.LayoutReaderFactory.opener c.open_under.new.opener) c.in-Err.fault c.of_file.result
    c.of_file.ensures c.in-Err.ensures.err
