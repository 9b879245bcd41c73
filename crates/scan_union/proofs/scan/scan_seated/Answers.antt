use Rattle.std.proofs.Common.{rules, ◌≡◌, ◌<◌, ◌^◌, [], ◌++◌, All, List, length, map, vec_len, vec_capacity, arith, refl, sym, subst, ap, ◌∙◌}
use Rattle.std.proofs.lemmas.List.{length-map}
use Rattle.std.proofs.lemmas.Result.{err_from_is_err_and, IfOk-weaker, IfErr-weaker}
use Rattle.scan_caches.specs.Bounded.{keyed_state}
use Rattle.scan_segments.specs.Source.{none_live}
use Rattle.scan_drive.specs.declared.files.ScanFile.{ScanFile}
use Rattle.scan_multi.specs.Lawful.{IsIdle}
use Rattle.scan_opener.specs.declared.opener.MemoryOpener.{MemoryOpener}
use Rattle.scan_widened.specs.Sources.{UnionState, state_of}
use Rattle.scan_union.specs.Made.{memory}
use Rattle.scan_union.specs.Seats.{make_all, rest_of, back_all}
use Rattle.scan_union.specs.declared.fault.UnionFault.TheVariants as fault
use Rattle.scan_union.specs.declared.seat.Seat.{Seat}
use Rattle.scan_union.proofs.Ending.{Ends, short_moves, short_err, idle_made, make_count, ends_moves, ends_ok, ends_err}
use Rattle.scan_union.proofs.scan.scan_seated.Goals as goal

pub returns-in_err-cache-clause-ok : goal.returns-in_err-cache-clause-ok
returns-in_err-cache-clause-ok g c = let p = err_from_is_err_and c.from_residual.result c.from_residual.ensures.1 in rw (p.1) tt

pub returns-in_err-cache-clause-err : goal.returns-in_err-cache-clause-err
returns-in_err-cache-clause-err g c =
    let opener = g.O.LayoutReaderFactory.opener in
    let source = g.S.SegmentSource.state in
    let mid : List (ScanFile g.row.O.Denot g.row.S.Denot) = c.args.files.now.items in
    let p = err_from_is_err_and c.from_residual.result c.from_residual.ensures.1 in
    rw (p.1, p.2) (λ old seated begun. short_err opener source c.args.workers c.args.dtype.now c.args.request.now old mid c.args.seats.items seated begun fault.NoMemory refl)

pub returns-in_err-cache-clause-moves : goal.returns-in_err-cache-clause-moves
returns-in_err-cache-clause-moves g c =
    let opener = g.O.LayoutReaderFactory.opener in
    let source = g.S.SegmentSource.state in
    let mid : List (ScanFile g.row.O.Denot g.row.S.Denot) = c.args.files.now.items in
    λ old seated begun. short_moves opener source c.args.workers c.args.dtype.now c.args.request.now old mid c.args.seats.items seated begun

pub returns-in_err-rests-clause-ok : goal.returns-in_err-rests-clause-ok
returns-in_err-rests-clause-ok g c = let p = err_from_is_err_and c.from_residual-in_err-rests.result c.from_residual-in_err-rests.ensures.1 in rw (p.1) tt

pub returns-in_err-rests-clause-err : goal.returns-in_err-rests-clause-err
returns-in_err-rests-clause-err g c =
    let opener = g.O.LayoutReaderFactory.opener in
    let source = g.S.SegmentSource.state in
    let mid : List (ScanFile g.row.O.Denot g.row.S.Denot) = c.args.files.now.items in
    let p = err_from_is_err_and c.from_residual-in_err-rests.result c.from_residual-in_err-rests.ensures.1 in
    rw (p.1, p.2) (λ old seated begun. short_err opener source c.args.workers c.args.dtype.now c.args.request.now old mid c.args.seats.items seated begun fault.NoMemory refl)

pub returns-in_err-rests-clause-moves : goal.returns-in_err-rests-clause-moves
returns-in_err-rests-clause-moves g c =
    let opener = g.O.LayoutReaderFactory.opener in
    let source = g.S.SegmentSource.state in
    let mid : List (ScanFile g.row.O.Denot g.row.S.Denot) = c.args.files.now.items in
    λ old seated begun. short_moves opener source c.args.workers c.args.dtype.now c.args.request.now old mid c.args.seats.items seated begun

pub returns-in_err-made-clause-ok : goal.returns-in_err-made-clause-ok
returns-in_err-made-clause-ok g c = let p = err_from_is_err_and c.from_residual-in_err-made.result c.from_residual-in_err-made.ensures.1 in rw (p.1) tt

pub returns-in_err-made-clause-err : goal.returns-in_err-made-clause-err
returns-in_err-made-clause-err g c =
    let opener = g.O.LayoutReaderFactory.opener in
    let source = g.S.SegmentSource.state in
    let mid : List (ScanFile g.row.O.Denot g.row.S.Denot) = c.args.files.now.items in
    let p = err_from_is_err_and c.from_residual-in_err-made.result c.from_residual-in_err-made.ensures.1 in
    rw (p.1, p.2) (λ old seated begun. short_err opener source c.args.workers c.args.dtype.now c.args.request.now old mid c.args.seats.items seated begun fault.NoMemory refl)

pub returns-in_err-made-clause-moves : goal.returns-in_err-made-clause-moves
returns-in_err-made-clause-moves g c =
    let opener = g.O.LayoutReaderFactory.opener in
    let source = g.S.SegmentSource.state in
    let mid : List (ScanFile g.row.O.Denot g.row.S.Denot) = c.args.files.now.items in
    λ old seated begun. short_moves opener source c.args.workers c.args.dtype.now c.args.request.now old mid c.args.seats.items seated begun

pub returns-in_err-with_capacity-clause-ok : goal.returns-in_err-with_capacity-clause-ok
returns-in_err-with_capacity-clause-ok g c = let p = err_from_is_err_and c.from_residual-in_err-with_capacity.result c.from_residual-in_err-with_capacity.ensures.1 in rw (p.1) tt

pub returns-in_err-with_capacity-clause-err : goal.returns-in_err-with_capacity-clause-err
returns-in_err-with_capacity-clause-err g c =
    let opener = g.O.LayoutReaderFactory.opener in
    let source = g.S.SegmentSource.state in
    let mid : List (ScanFile g.row.O.Denot g.row.S.Denot) = c.args.files.now.items in
    let p = err_from_is_err_and c.from_residual-in_err-with_capacity.result c.from_residual-in_err-with_capacity.ensures.1 in
    rw (p.1, p.2) (λ old seated begun. short_err opener source c.args.workers c.args.dtype.now c.args.request.now old mid c.args.seats.items seated begun fault.NoMemory refl)

pub returns-in_err-with_capacity-clause-moves : goal.returns-in_err-with_capacity-clause-moves
returns-in_err-with_capacity-clause-moves g c =
    let opener = g.O.LayoutReaderFactory.opener in
    let source = g.S.SegmentSource.state in
    let mid : List (ScanFile g.row.O.Denot g.row.S.Denot) = c.args.files.now.items in
    λ old seated begun. short_moves opener source c.args.workers c.args.dtype.now c.args.request.now old mid c.args.seats.items seated begun

-- ---- the files are taken apart
pub take_apart-requires-clause-even : goal.take_apart-requires-clause-even
take_apart-requires-clause-even g c =
    let same : c.replace-opened.result.items ≡ c.args.files.now.items = ap (λ v. v.items) c.replace-opened.ensures.value in
    ap length same ∙ c.requires.even

pub take_apart-requires-clause-idle : goal.take_apart-requires-clause-idle
take_apart-requires-clause-idle g c =
    let same : c.replace-opened.result.items ≡ c.args.files.now.items = ap (λ v. v.items) c.replace-opened.ensures.value in
    subst (λ (fs : List (ScanFile g.row.O.Denot g.row.S.Denot)). All (λ (f : ScanFile g.row.O.Denot g.row.S.Denot). (g.S.SegmentSource.state f.source).live ≡ none_live) fs) (sym same) c.requires.idle

pub scan_made-answer-requires-clause-idle : goal.scan_made-answer-requires-clause-idle
scan_made-answer-requires-clause-idle g c κs within =
    let opener = g.O.LayoutReaderFactory.opener in
    let source = g.S.SegmentSource.state in
    let mid : List (ScanFile g.row.O.Denot g.row.S.Denot) = c.args.files.now.items in
    let ss : List Seat = c.args.seats.items in
    let same : c.replace-opened.result.items ≡ mid = ap (λ v. v.items) c.replace-opened.ensures.value in
    let made : c.take_apart.new.made.items ≡ make_all source mid ss = c.take_apart.ensures.made ∙ ap (λ ms. ms ++ make_all source c.replace-opened.result.items ss) c.in_ok-made.ensures.items ∙ ap (λ fs. make_all source fs ss) same in
    subst (λ (ms : List (ScanFile MemoryOpener (UnionState g.row.S.Denot))). All (IsIdle memory (state_of source)) ms) (sym made) (idle_made opener source c.args.workers c.args.dtype.now c.args.request.now mid ss)

pub put_back-requires-clause-even : goal.put_back-requires-clause-even
put_back-requires-clause-even g c =
    let opener = g.O.LayoutReaderFactory.opener in
    let source = g.S.SegmentSource.state in
    let mid : List (ScanFile g.row.O.Denot g.row.S.Denot) = c.args.files.now.items in
    let ss : List Seat = c.args.seats.items in
    let same : c.replace-opened.result.items ≡ mid = ap (λ v. v.items) c.replace-opened.ensures.value in
    let made : c.take_apart.new.made.items ≡ make_all source mid ss = c.take_apart.ensures.made ∙ ap (λ ms. ms ++ make_all source c.replace-opened.result.items ss) c.in_ok-made.ensures.items ∙ ap (λ fs. make_all source fs ss) same in
    let kept : c.take_apart.new.rests.items ≡ map rest_of mid = c.take_apart.ensures.rests ∙ ap (λ rs. rs ++ map rest_of c.replace-opened.result.items) c.in_ok-rests.ensures.items ∙ ap (λ fs. map rest_of fs) same in
    let n : length (make_all source mid ss) ≡ length mid = make_count opener source c.args.workers c.args.dtype.now c.args.request.now mid ss c.requires.even in
    ap length kept ∙ length-map mid rest_of ∙ sym n ∙ ap length (sym made) ∙ sym c.scan_made-answer.ensures.moves.count

pub put_back-requires-clause-room : goal.put_back-requires-clause-room
put_back-requires-clause-room g c =
    let opener = g.O.LayoutReaderFactory.opener in
    let source = g.S.SegmentSource.state in
    let mid : List (ScanFile g.row.O.Denot g.row.S.Denot) = c.args.files.now.items in
    let ss : List Seat = c.args.seats.items in
    let same : c.replace-opened.result.items ≡ mid = ap (λ v. v.items) c.replace-opened.ensures.value in
    let made : c.take_apart.new.made.items ≡ make_all source mid ss = c.take_apart.ensures.made ∙ ap (λ ms. ms ++ make_all source c.replace-opened.result.items ss) c.in_ok-made.ensures.items ∙ ap (λ fs. make_all source fs ss) same in
    let kept : c.take_apart.new.rests.items ≡ map rest_of mid = c.take_apart.ensures.rests ∙ ap (λ rs. rs ++ map rest_of c.replace-opened.result.items) c.in_ok-rests.ensures.items ∙ ap (λ fs. map rest_of fs) same in
    let n : length c.take_apart.new.rests.items ≡ length mid = ap length kept ∙ length-map mid rest_of in
    let empty : vec_len c.replace-opened.new.dest ≡ 0 = ap (λ v. vec_len v) c.replace-opened.ensures.after ∙ c.in_ok-with_capacity.ensures.len in
    let room : vec_capacity c.replace-opened.new.dest ≡ c.len-count.result = ap (λ v. vec_capacity v) c.replace-opened.ensures.after ∙ c.in_ok-with_capacity.ensures.exact in
    let count : c.len-count.result ≡ length mid = search rules in
    omega (arith, n, empty, room, count)

-- ---- and put back

pub returns-clause-ok : goal.returns-clause-ok
returns-clause-ok g c =
    let opener = g.O.LayoutReaderFactory.opener in
    let source = g.S.SegmentSource.state in
    let mid : List (ScanFile g.row.O.Denot g.row.S.Denot) = c.args.files.now.items in
    let ss : List Seat = c.args.seats.items in
    let same : c.replace-opened.result.items ≡ mid = ap (λ v. v.items) c.replace-opened.ensures.value in
    let made : c.take_apart.new.made.items ≡ make_all source mid ss = c.take_apart.ensures.made ∙ ap (λ ms. ms ++ make_all source c.replace-opened.result.items ss) c.in_ok-made.ensures.items ∙ ap (λ fs. make_all source fs ss) same in
    let kept : c.take_apart.new.rests.items ≡ map rest_of mid = c.take_apart.ensures.rests ∙ ap (λ rs. rs ++ map rest_of c.replace-opened.result.items) c.in_ok-rests.ensures.items ∙ ap (λ fs. map rest_of fs) same in
    let empty : c.replace-opened.new.dest.items ≡ [] = ap (λ v. v.items) c.replace-opened.ensures.after ∙ c.in_ok-with_capacity.ensures.items in
    let most : length mid < 2 ^ 64 = search rules in
    let ends : Ends opener source c.args.workers c.args.dtype.now c.args.request.now mid c.put_back.new.files.items ss c.take_apart.new.rests.items c.take_apart.new.made.items c.scan_made-answer.new.made.items (keyed_state c.in_ok-cache.cache) (keyed_state c.scan_made-answer.new.cache) = record {
      kept = kept;
      makes = made;
      back = c.put_back.ensures.back ∙ ap (λ fs. fs ++ back_all c.take_apart.new.rests.items c.scan_made-answer.new.made.items) empty;
      follow = c.put_back.ensures.follow;
      empty = ap keyed_state c.in_ok-cache.ensures;
      moves = c.scan_made-answer.ensures.moves;
      most = most;
    } in
    IfOk-weaker c.scan_made-answer.result _ _
    (λ out h old seated begun. ends_ok opener source c.args.workers c.args.dtype.now c.args.request.now old mid c.put_back.new.files.items ss
    c.take_apart.new.rests.items c.take_apart.new.made.items c.scan_made-answer.new.made.items
    (keyed_state c.in_ok-cache.cache) (keyed_state c.scan_made-answer.new.cache) ends seated begun out h)
    c.scan_made-answer.ensures.ok

pub returns-clause-err : goal.returns-clause-err
returns-clause-err g c =
    let opener = g.O.LayoutReaderFactory.opener in
    let source = g.S.SegmentSource.state in
    let mid : List (ScanFile g.row.O.Denot g.row.S.Denot) = c.args.files.now.items in
    let ss : List Seat = c.args.seats.items in
    let same : c.replace-opened.result.items ≡ mid = ap (λ v. v.items) c.replace-opened.ensures.value in
    let made : c.take_apart.new.made.items ≡ make_all source mid ss = c.take_apart.ensures.made ∙ ap (λ ms. ms ++ make_all source c.replace-opened.result.items ss) c.in_ok-made.ensures.items ∙ ap (λ fs. make_all source fs ss) same in
    let kept : c.take_apart.new.rests.items ≡ map rest_of mid = c.take_apart.ensures.rests ∙ ap (λ rs. rs ++ map rest_of c.replace-opened.result.items) c.in_ok-rests.ensures.items ∙ ap (λ fs. map rest_of fs) same in
    let empty : c.replace-opened.new.dest.items ≡ [] = ap (λ v. v.items) c.replace-opened.ensures.after ∙ c.in_ok-with_capacity.ensures.items in
    let most : length mid < 2 ^ 64 = search rules in
    let ends : Ends opener source c.args.workers c.args.dtype.now c.args.request.now mid c.put_back.new.files.items ss c.take_apart.new.rests.items c.take_apart.new.made.items c.scan_made-answer.new.made.items (keyed_state c.in_ok-cache.cache) (keyed_state c.scan_made-answer.new.cache) = record {
      kept = kept;
      makes = made;
      back = c.put_back.ensures.back ∙ ap (λ fs. fs ++ back_all c.take_apart.new.rests.items c.scan_made-answer.new.made.items) empty;
      follow = c.put_back.ensures.follow;
      empty = ap keyed_state c.in_ok-cache.ensures;
      moves = c.scan_made-answer.ensures.moves;
      most = most;
    } in
    IfErr-weaker c.scan_made-answer.result _ _
    (λ e h old seated begun. ends_err opener source c.args.workers c.args.dtype.now c.args.request.now old mid c.put_back.new.files.items ss
    c.take_apart.new.rests.items c.take_apart.new.made.items c.scan_made-answer.new.made.items
    (keyed_state c.in_ok-cache.cache) (keyed_state c.scan_made-answer.new.cache) ends seated begun h.why e h.refused h.is)
    c.scan_made-answer.ensures.err

pub returns-clause-moves : goal.returns-clause-moves
returns-clause-moves g c =
    let opener = g.O.LayoutReaderFactory.opener in
    let source = g.S.SegmentSource.state in
    let mid : List (ScanFile g.row.O.Denot g.row.S.Denot) = c.args.files.now.items in
    let ss : List Seat = c.args.seats.items in
    let same : c.replace-opened.result.items ≡ mid = ap (λ v. v.items) c.replace-opened.ensures.value in
    let made : c.take_apart.new.made.items ≡ make_all source mid ss = c.take_apart.ensures.made ∙ ap (λ ms. ms ++ make_all source c.replace-opened.result.items ss) c.in_ok-made.ensures.items ∙ ap (λ fs. make_all source fs ss) same in
    let kept : c.take_apart.new.rests.items ≡ map rest_of mid = c.take_apart.ensures.rests ∙ ap (λ rs. rs ++ map rest_of c.replace-opened.result.items) c.in_ok-rests.ensures.items ∙ ap (λ fs. map rest_of fs) same in
    let empty : c.replace-opened.new.dest.items ≡ [] = ap (λ v. v.items) c.replace-opened.ensures.after ∙ c.in_ok-with_capacity.ensures.items in
    let most : length mid < 2 ^ 64 = search rules in
    let ends : Ends opener source c.args.workers c.args.dtype.now c.args.request.now mid c.put_back.new.files.items ss c.take_apart.new.rests.items c.take_apart.new.made.items c.scan_made-answer.new.made.items (keyed_state c.in_ok-cache.cache) (keyed_state c.scan_made-answer.new.cache) = record {
      kept = kept;
      makes = made;
      back = c.put_back.ensures.back ∙ ap (λ fs. fs ++ back_all c.take_apart.new.rests.items c.scan_made-answer.new.made.items) empty;
      follow = c.put_back.ensures.follow;
      empty = ap keyed_state c.in_ok-cache.ensures;
      moves = c.scan_made-answer.ensures.moves;
      most = most;
    } in
    λ old seated begun. ends_moves opener source c.args.workers c.args.dtype.now c.args.request.now old mid c.put_back.new.files.items ss
    c.take_apart.new.rests.items c.take_apart.new.made.items c.scan_made-answer.new.made.items
    (keyed_state c.in_ok-cache.cache) (keyed_state c.scan_made-answer.new.cache) ends seated begun
