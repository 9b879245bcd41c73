use borrow.Author.Rules.{rules}
use Rattle.std.proofs.Common.{Vec, Global, ◌≡◌, ◌+◌, ◌≤◌, ℕ, Err, IfSome, Ok, Option, true, length, map, pos, refl, replicate, arith, ap, sym, subst, ◌∙◌}
use Rattle.std.proofs.lemmas.Result.{err_from_is_err_and}
use Rattle.scan_values.specs.Arrays.{ArrayData}
use Rattle.scan_values.specs.Val.{int_val}
use Rattle.scan_layout.specs.Check.{total_rows}
use Rattle.scan_plans.specs.Came.{came}
use Rattle.scan_plans.specs.Lists.{rows_on}
use Rattle.scan_plans.specs.OffsetReads.{Climbs}
use Rattle.scan_plans.specs.OffsetsData.{OffsetsData}
use Rattle.scan_plans.specs.PlanTree.{leaf}
use Rattle.scan_plans.specs.Reads.{AreValues, Reads}
use Rattle.scan_plans.proofs.OffsetChecks.{scalar_numbers, reads_offsets, offsets_fault, numbers_long}
use Rattle.scan_plans.proofs.offsets.Offsets.read.Goals as goal

pub read_leaf-requires-clause-scalar : goal.read_leaf-requires-clause-scalar
read_leaf-requires-clause-scalar c = scalar_numbers c.self.inside.dtype.value c.self.invariant

pub returns-in_err-column : goal.returns-in_err-column
returns-in_err-column c =
    let here = came c.args.inbox.now in
    let q = err_from_is_err_and c.from_residual-in_err-column.result c.from_residual-in_err-column.ensures.1 in
    let all : c.as_slice.result.now ≡ replicate c.args.count true = search (rules, c.as_slice.ensures, c.in_ok-mask.ensures) in
    let own : Reads (leaf (c.args.self.now).dtype (c.args.self.now).spelling (c.args.self.now).segments) here (rows_on c.args.first c.args.count) (Err c.in_err-column.field-0.0) = search (rules, c.in_err-column.ensures, all, c.deref.ensures, c.self.view_is) in
    rw (q.1, q.2) (offsets_fault (λ (v : Vec ℕ Global). v.items) c.args.self.now here c.args.first c.args.count c.in_err-column.field-0.0 own)

pub checked-requires : goal.checked-requires
checked-requires c =
    let here = came c.args.inbox.now in
    let all : c.as_slice.result.now ≡ replicate c.args.count true = search (rules, c.as_slice.ensures, c.in_ok-mask.ensures) in
    let own : AreValues (leaf (c.args.self.now).dtype (c.args.self.now).spelling (c.args.self.now).segments) here (rows_on c.args.first c.args.count) c.in_ok-column.column = search (rules, c.in_ok-column.ensures, all, c.deref.ensures, c.self.view_is) in
    let array : c.in_ok-array.array ≡ c.in_ok-column.column = search (rules, c.in_ok-array.ensures) in
    let are : map int_val c.in_ok-numbers.numbers.items ≡ c.in_ok-array.array.items = search (rules, c.in_ok-numbers.ensures) in
    let long : length c.in_ok-numbers.numbers.items ≡ c.args.count = numbers_long
    (leaf (c.args.self.now).dtype (c.args.self.now).spelling (c.args.self.now).segments) here c.args.first c.args.count c.in_ok-column.column
    c.in_ok-numbers.numbers.items own (are ∙ ap (λ (x : ArrayData). x.items) array) in
    let low : c.args.first + length c.in_ok-numbers.numbers.items ≤ total_rows (c.args.self.now).segments = omega (arith, long, c.requires) in
    search (rules, low)

pub returns : goal.returns
returns c =
    let here = came c.args.inbox.now in
    let all : c.as_slice.result.now ≡ replicate c.args.count true = search (rules, c.as_slice.ensures, c.in_ok-mask.ensures) in
    let own : AreValues (leaf (c.args.self.now).dtype (c.args.self.now).spelling (c.args.self.now).segments) here (rows_on c.args.first c.args.count) c.in_ok-column.column = search (rules, c.in_ok-column.ensures, all, c.deref.ensures, c.self.view_is) in
    let array : c.in_ok-array.array ≡ c.in_ok-column.column = search (rules, c.in_ok-array.ensures) in
    let seen = subst (λ (x : ArrayData). AreValues (leaf (c.args.self.now).dtype (c.args.self.now).spelling (c.args.self.now).segments) here (rows_on c.args.first c.args.count) x) (sym array) own in
    let are : map int_val c.in_ok-numbers.numbers.items ≡ c.in_ok-array.array.items = search (rules, c.in_ok-numbers.ensures) in
    reads_offsets (λ v. v.items) c.args.self.now here c.args.first c.args.count c.in_ok-array.array c.in_ok-numbers.numbers.items c.checked.result seen are (search (rules, c.checked.ensures))

pub returns-in-Some : goal.returns-in-Some
returns-in-Some c =
    let here = came c.args.inbox.now in
    let ns = c.in-Some.offsets.items in
    let all : c.as_slice.result.now ≡ replicate c.args.count true = search (rules, c.as_slice.ensures, c.in_ok-mask.ensures) in
    let own : AreValues (leaf (c.args.self.now).dtype (c.args.self.now).spelling (c.args.self.now).segments) here (rows_on c.args.first c.args.count) c.in_ok-column.column = search (rules, c.in_ok-column.ensures, all, c.deref.ensures, c.self.view_is) in
    let each = subst (λ (o : Option (Vec ℕ Global)). IfSome o (λ v. (map int_val (map pos v.items) ≡ c.in_ok-column.column.items) × Climbs c.self.inside.elements 0 v.items)) c.in-Some.is c.in_ok-offsets.ensures in
    let climbs = subst (λ (o : OffsetsData). Climbs o.elements 0 ns) c.self.view_is each.1 in
    reads_offsets (λ (v : Vec ℕ Global). v.items) c.args.self.now here c.args.first c.args.count c.in_ok-column.column (map pos ns) (Ok c.in-Some.offsets) own each.0 (refl, climbs)
