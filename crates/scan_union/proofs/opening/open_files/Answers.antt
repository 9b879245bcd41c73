use Rattle.std.proofs.Common.{rules, ◌≡◌, ◌<◌, ◌≤◌, ◌+◌, [], ◌∷◌, ◌++◌, inl, List, length, length-set, set, refl, sym, subst, ◌∙◌}
use Rattle.std.proofs.lemmas.Result.{err_from_is_err_and}
use Rattle.scan_drive.specs.declared.files.ScanFile.{ScanFile}
use Rattle.scan_union.specs.declared.seat.Seat.{Seat}
use Rattle.scan_union.proofs.Walking.{Walk, walk_none, walk_front, walk_all, polled_front, polled_stop, polled_on}
use Rattle.scan_union.proofs.opening.open_files.Goals as goal

pub returns-in_err-seats-clause-front : goal.returns-in_err-seats-clause-front
returns-in_err-seats-clause-front g c =
    let old : List (ScanFile g.row.O.Denot g.row.S.Denot) = c.args.files.now.items in
    walk_front g.O.LayoutReaderFactory.opener g.S.SegmentSource.state c.args.dtype.now c.args.range.now old old [] 0 0 (walk_none g.O.LayoutReaderFactory.opener g.S.SegmentSource.state c.args.dtype.now c.args.range.now old)

pub returns-in_err-seats-clause-err : goal.returns-in_err-seats-clause-err
returns-in_err-seats-clause-err g c =
    let p = err_from_is_err_and c.from_residual.result c.from_residual.ensures.1 in
    rw (p.1, p.2) (inl refl)

pub loop-place-init : goal.loop-place-init
loop-place-init g c =
    let opener = g.O.LayoutReaderFactory.opener in
    let source = g.S.SegmentSource.state in
    let old : List (ScanFile g.row.O.Denot g.row.S.Denot) = c.args.files.now.items in
    record {
      walk = subst (λ (ss : List Seat). Walk opener source c.args.dtype.now c.args.range.now old old ss 0 0) (sym c.in_ok-seats.ensures.items) (walk_none opener source c.args.dtype.now c.args.range.now old);
      len = refl;
    }

pub returns-in_err-seat-clause-front : goal.returns-in_err-seat-clause-front
returns-in_err-seat-clause-front g c =
    let now : List (ScanFile g.row.O.Denot g.row.S.Denot) = c.loop-place.files.items in
    let x : ScanFile g.row.O.Denot g.row.S.Denot = c.index_mut-file.result.now in
    let n = c.loop-place.invariant.len in
    let lt : c.loop-place.place < length now = search (rules, n) in
    polled_front g.O.LayoutReaderFactory.opener g.S.SegmentSource.state c.args.dtype.now c.args.range.now c.args.files.now.items now c.loop-place.seats.items c.loop-place.place c.loop-place.rows c.loop-place.invariant.walk x
    c.index_mut-file.ensures.value lt c.open_file.new.opener c.open_file.ensures.polls

pub returns-in_err-seat-clause-err : goal.returns-in_err-seat-clause-err
returns-in_err-seat-clause-err g c =
    let now : List (ScanFile g.row.O.Denot g.row.S.Denot) = c.loop-place.files.items in
    let x : ScanFile g.row.O.Denot g.row.S.Denot = c.index_mut-file.result.now in
    let n = c.loop-place.invariant.len in
    let lt : c.loop-place.place < length now = search (rules, n) in
    let p = err_from_is_err_and c.from_residual-in_err-seat.result c.from_residual-in_err-seat.ensures.1 in
    rw (p.1, p.2)
    (polled_stop g.O.LayoutReaderFactory.opener g.S.SegmentSource.state c.args.dtype.now c.args.range.now c.args.files.now.items now c.loop-place.seats.items c.loop-place.place c.loop-place.rows c.loop-place.invariant.walk x
    c.index_mut-file.ensures.value lt c.open_file.new.opener c.open_file.ensures.polls _ c.in_err-seat.ensures.err)

pub returns-in_err-push-clause-front : goal.returns-in_err-push-clause-front
returns-in_err-push-clause-front g c =
    let now : List (ScanFile g.row.O.Denot g.row.S.Denot) = c.loop-place.files.items in
    let x : ScanFile g.row.O.Denot g.row.S.Denot = c.index_mut-file.result.now in
    let n = c.loop-place.invariant.len in
    let lt : c.loop-place.place < length now = search (rules, n) in
    polled_front g.O.LayoutReaderFactory.opener g.S.SegmentSource.state c.args.dtype.now c.args.range.now c.args.files.now.items now c.loop-place.seats.items c.loop-place.place c.loop-place.rows c.loop-place.invariant.walk x
    c.index_mut-file.ensures.value lt c.open_file.new.opener c.open_file.ensures.polls

pub returns-in_err-push-clause-err : goal.returns-in_err-push-clause-err
returns-in_err-push-clause-err g c =
    let p = err_from_is_err_and c.from_residual-in_err-push.result c.from_residual-in_err-push.ensures.1 in
    rw (p.1, p.2) (inl refl)

pub loop-place-preserved : goal.loop-place-preserved
loop-place-preserved g c =
    let opener = g.O.LayoutReaderFactory.opener in
    let source = g.S.SegmentSource.state in
    let old : List (ScanFile g.row.O.Denot g.row.S.Denot) = c.args.files.now.items in
    let now : List (ScanFile g.row.O.Denot g.row.S.Denot) = c.loop-place.files.items in
    let x : ScanFile g.row.O.Denot g.row.S.Denot = c.index_mut-file.result.now in
    let y : ScanFile g.row.O.Denot g.row.S.Denot = record x { opener = c.open_file.new.opener } in
    let i = c.loop-place.place in
    let n = c.loop-place.invariant.len in
    let lt : i < length now = search (rules, n) in
    let pushed : c.push.new.self.items ≡ c.loop-place.seats.items ++ c.in_ok-seat.seat ∷ [] = search (rules, c.in_ok-push.ensures.items) in
    record {
      walk = subst (λ (ss : List Seat). Walk opener source c.args.dtype.now c.args.range.now old (set now i y) ss (i + 1) c.in_ok-seat.sum) (sym pushed)
          (polled_on opener source c.args.dtype.now c.args.range.now old now c.loop-place.seats.items i c.loop-place.rows c.loop-place.invariant.walk x c.index_mut-file.ensures.value lt
          c.open_file.new.opener c.open_file.ensures.polls c.in_ok-seat.seat c.in_ok-seat.sum c.in_ok-seat.ensures.ok);
      len = length-set now i y ∙ n;
    }

pub returns-clause-front : goal.returns-clause-front
returns-clause-front g c =
    walk_front g.O.LayoutReaderFactory.opener g.S.SegmentSource.state c.args.dtype.now c.args.range.now c.args.files.now.items c.loop-place.files.items c.loop-place.seats.items c.loop-place.place c.loop-place.rows c.loop-place.invariant.walk

pub returns-clause-ok : goal.returns-clause-ok
returns-clause-ok g c =
    let n = c.loop-place.invariant.len in
    let all : length c.loop-place.files.items ≤ c.loop-place.place = search (rules, n) in
    walk_all g.O.LayoutReaderFactory.opener g.S.SegmentSource.state c.args.dtype.now c.args.range.now c.args.files.now.items c.loop-place.files.items c.loop-place.seats.items c.loop-place.place c.loop-place.rows c.loop-place.invariant.walk all
