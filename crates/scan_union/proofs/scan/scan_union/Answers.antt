use Rattle.std.proofs.Common.{refl, sym, subst}
use Rattle.std.proofs.lemmas.Result.{err_from_is_err_and}
use Rattle.scan_multi.specs.Output.{OutputData}
use Rattle.scan_union.specs.UnionScans.{IsUnionScan}
use Rattle.scan_union.specs.declared.fault.UnionFault.TheVariants as fault
use Rattle.scan_union.proofs.Ending.{short_of}
use Rattle.scan_union.proofs.scan.scan_union.Goals as goal

pub returns-in_err-output-clause-ok : goal.returns-in_err-output-clause-ok
returns-in_err-output-clause-ok g c = let p = err_from_is_err_and c.from_residual.result c.from_residual.ensures.1 in rw (p.1) tt

pub returns-in_err-output-clause-err : goal.returns-in_err-output-clause-err
returns-in_err-output-clause-err g c = let p = err_from_is_err_and c.from_residual.result c.from_residual.ensures.1 in rw (p.1, p.2) c.in_err-output.ensures.err

pub returns-in_err-output-clause-moves : goal.returns-in_err-output-clause-moves
returns-in_err-output-clause-moves g c = c.scan_union_columns.ensures.moves

pub returns-in_err-into_arrays-clause-ok : goal.returns-in_err-into_arrays-clause-ok
returns-in_err-into_arrays-clause-ok g c = let p = err_from_is_err_and c.from_residual-in_err-into_arrays.result c.from_residual-in_err-into_arrays.ensures.1 in rw (p.1) tt

pub returns-in_err-into_arrays-clause-err : goal.returns-in_err-into_arrays-clause-err
returns-in_err-into_arrays-clause-err g c =
    let p = err_from_is_err_and c.from_residual-in_err-into_arrays.result c.from_residual-in_err-into_arrays.ensures.1 in
    rw (p.1, p.2)
    (short_of g.O.LayoutReaderFactory.opener g.S.SegmentSource.state c.args.workers c.args.dtype.now c.args.request.now c.args.files.now.items c.scan_union_columns.new.files.items fault.NoMemory c.in_ok-output.ensures.ok.types refl)

pub returns-in_err-into_arrays-clause-moves : goal.returns-in_err-into_arrays-clause-moves
returns-in_err-into_arrays-clause-moves g c = c.scan_union_columns.ensures.moves

pub returns-clause-ok : goal.returns-clause-ok
returns-clause-ok g c =
    subst (λ (o : OutputData). IsUnionScan g.O.LayoutReaderFactory.opener g.S.SegmentSource.state c.args.workers c.args.dtype.now c.args.request.now c.args.files.now.items c.scan_union_columns.new.files.items o)
    (sym c.in_ok-into_arrays.ensures) c.in_ok-output.ensures.ok

pub returns-clause-moves : goal.returns-clause-moves
returns-clause-moves g c = c.scan_union_columns.ensures.moves
