use Rattle.std.proofs.Common.{◌≡◌, ◌+◌, length, slice_range, arith, true, ap, ◌∙◌}
use Rattle.std.specs.List.{items_where_true}
use Rattle.scan_values.specs.Fits.{is_bool_type}
use Rattle.scan_values.specs.DataType.{nullability_of}
use Rattle.scan_values.specs.declared.dtype.DTypeKind.{DTypeKind}
use Rattle.scan_spelling.specs.Spelling.{decode_under}
use Rattle.scan_spelling.specs.LeafColumns.{spelled, or_none}
use Rattle.scan_spelling.proofs.BitColumns.{still}
use Rattle.scan_spelling.proofs.Lengths.{decode_length}
use Rattle.scan_spelling.proofs.Runs.{bool_under}
use Rattle.scan_spelling.proofs.column.LeafColumn.bools.Goals as goal

pub bool_run-requires-clause-spelled : goal.bool_run-requires-clause-spelled
bool_run-requires-clause-spelled c =
    let s = c.self.inside.spelling in
    let t = c.self.inside.dtype in
    let n = c.self.inside.rows in
    let bytes = c.self.inside.bytes in
    let bool : is_bool_type t ≡ true = rw (← c.self.view_is) at c.requires.bools in
    rw (c.nullability.ensures, c.as_slice.ensures) (still (decode_under s (nullability_of t) DTypeKind.Bool n bytes) (spelled s t n bytes) (bool_under s t n bytes (spelled s t n bytes) bool c.self.invariant.0))

pub bool_run-requires-clause-within : goal.bool_run-requires-clause-within
bool_run-requires-clause-within c =
    let same : length c.args.self.now.items ≡ c.self.inside.rows =
    rw (← c.self.view_is) (decode_length c.self.inside.spelling c.self.inside.dtype c.self.inside.rows c.self.inside.bytes (spelled c.self.inside.spelling c.self.inside.dtype c.self.inside.rows c.self.inside.bytes) c.self.invariant.0) in
    omega (arith, c.requires.within, same)

pub returns : goal.returns
returns c =
    let s = c.self.inside.spelling in
    let t = c.self.inside.dtype in
    let n = c.self.inside.rows in
    let bytes = c.self.inside.bytes in
    let bool : is_bool_type t ≡ true = rw (← c.self.view_is) at c.requires.bools in
    let same : or_none (decode_under s (nullability_of t) DTypeKind.Bool n bytes) ≡ c.args.self.now.items =
    rw (← c.self.view_is) (ap or_none (bool_under s t n bytes (spelled s t n bytes) bool c.self.invariant.0)) in
    c.in_ok-run.ensures ∙ ap (λ vs. items_where_true c.args.mask.now (slice_range vs c.args.first (c.args.first + length c.args.mask.now))) (rw (c.nullability.ensures, c.as_slice.ensures) same)
