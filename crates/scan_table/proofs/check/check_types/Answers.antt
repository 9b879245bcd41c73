use Rattle.std.proofs.Common.{◌≡◌, map}
use Rattle.scan_values.specs.FieldLists.{dtypes_of}
use Rattle.scan_expr.specs.Infer.{infer}
use Rattle.scan_table.specs.Spec.{read_of}
use Rattle.scan_table.proofs.Types.{no_part_types, part_types}
use Rattle.scan_table.proofs.check.check_types.Goals as goal

pub returns-in-Some-clause-ok : goal.returns-in-Some-clause-ok
returns-in-Some-clause-ok c =
    let d = c.args.projection.now.scope in
    let s = c.args.spec.now in
    let are : dtypes_of c.in-Some.types.now ≡ map (infer d) (read_of s) = part_types d c.dtype.result.now c.args.projection.now.expr s c.in-Some.types.now c.requires c.dtype.ensures.dtype c.in-Some.ensures in
    c.check_parts.ensures.ok d are

pub returns-in-Some-clause-err : goal.returns-in-Some-clause-err
returns-in-Some-clause-err c =
    let d = c.args.projection.now.scope in
    let s = c.args.spec.now in
    let are : dtypes_of c.in-Some.types.now ≡ map (infer d) (read_of s) = part_types d c.dtype.result.now c.args.projection.now.expr s c.in-Some.types.now c.requires c.dtype.ensures.dtype c.in-Some.ensures in
    c.check_parts.ensures.err d are

pub returns-in-None-clause-ok : goal.returns-in-None-clause-ok
returns-in-None-clause-ok c = absurd (no_part_types c.args.projection.now.scope c.dtype.result.now c.args.projection.now.expr c.args.spec.now c.requires c.dtype.ensures.dtype c.in-None.ensures)
