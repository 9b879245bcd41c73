use borrow.Author.Rules.{rules}
use Rattle.std.proofs.Common.{◌≡◌, ◌+◌, ◌<◌, ◌≤◌, length, true, false, arith}
use Rattle.std.proofs.lemmas.Result.{err_from_is_err_and}
use Rattle.std.specs.List.{list_any}
use Rattle.scan_spelling.specs.Places.{place_of}
use Rattle.scan_plans.specs.Came.{came, arrived}
use Rattle.scan_plans.proofs.Blocks.{any_long}
use Rattle.scan_plans.proofs.Building.{adds_none, adds_read, adds_fault}
use Rattle.scan_plans.proofs.Segments.{decoded_long}
use Rattle.scan_plans.proofs.leaf.with_segment.Goals as goal

pub returns-then-not-any_true : goal.returns-then-not-any_true
returns-then-not-any_true c =
    let none : list_any (λ b. b) c.args.bits.now ≡ false = search (rules, c.any_true.ensures, c.if-not-any_true.true) in
    adds_none (arrived (came c.args.inbox.now)) (place_of c.args.dtype.now.value c.args.spelling (c.args.id, c.args.rows)) c.args.skip c.args.bits.now c.args.column c.requires.dtype none

pub extend_from_leaf-requires-clause-within : goal.extend_from_leaf-requires-clause-within
extend_from_leaf-requires-clause-within c =
    let store = arrived (came c.args.inbox.now) in
    let p = place_of c.args.dtype.now.value c.args.spelling (c.args.id, c.args.rows) in
    let long = decoded_long store p c.in_ok-leaf.leaf.items c.in_ok-leaf.ensures.1 in
    let some : list_any (λ b. b) c.args.bits.now ≡ true = search (rules, c.any_true.ensures, c.if-not-any_true.false) in
    let within = c.requires.within (any_long c.args.bits.now some) in
    omega (arith, long, within)

pub returns-in_err-leaf : goal.returns-in_err-leaf
returns-in_err-leaf c =
    let store = arrived (came c.args.inbox.now) in
    let p = place_of c.args.dtype.now.value c.args.spelling (c.args.id, c.args.rows) in
    let some : list_any (λ b. b) c.args.bits.now ≡ true = search (rules, c.any_true.ensures, c.if-not-any_true.false) in
    let q = err_from_is_err_and c.from_residual.result c.from_residual.ensures.1 in
    rw (q.1, q.2) (adds_fault store p c.args.skip c.args.bits.now c.args.column c.in_err-leaf.field-0.0 some c.in_err-leaf.ensures)

pub returns : goal.returns
returns c =
    let store = arrived (came c.args.inbox.now) in
    let p = place_of c.args.dtype.now.value c.args.spelling (c.args.id, c.args.rows) in
    let some : list_any (λ b. b) c.args.bits.now ≡ true = search (rules, c.any_true.ensures, c.if-not-any_true.false) in
    let long = decoded_long store p c.in_ok-leaf.leaf.items c.in_ok-leaf.ensures.1 in
    let within = c.requires.within (any_long c.args.bits.now some) in
    adds_read store p c.args.skip c.args.bits.now c.args.column c.in_ok-extend_from_leaf.field-0 c.in_ok-leaf.leaf some c.in_ok-leaf.ensures (omega (arith, long, within)) c.requires.dtype c.in_ok-extend_from_leaf.ensures
