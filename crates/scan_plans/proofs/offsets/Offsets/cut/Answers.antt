use Rattle.std.proofs.Common.{◌≡◌, ◌+◌, ℕ, List, Option, Ok, Err, length, arith, ap, subst, ◌∙◌}
use Rattle.std.proofs.lemmas.Result.{err_from_is_err_and}
use Rattle.scan_layout.specs.Check.{total_rows}
use Rattle.scan_plans.specs.Came.{came}
use Rattle.scan_plans.specs.Meaning.{true_rows}
use Rattle.scan_plans.specs.OffsetReads.{Spans, ReadsOffsets}
use Rattle.scan_plans.specs.OffsetsData.{OffsetsData}
use Rattle.scan_plans.specs.declared.lists.Span.{Span}
use Rattle.scan_plans.proofs.OffsetChecks.{cut_fault}
use Rattle.scan_plans.proofs.offsets.Offsets.cut.Goals as goal

pub span_of-requires : goal.span_of-requires
span_of-requires c =
    let same : c.deref.result.now ≡ (c.args.self.now).segments = c.deref.ensures ∙ ap (λ (x : OffsetsData). x.segments) c.self.view_is in
    let count : c.row_count-rows.result ≡ total_rows (c.args.self.now).segments = c.row_count-rows.ensures ∙ ap total_rows same in
    omega (arith, count, c.row_count-rows.type_inv, c.requires)

pub overflow_add-len : goal.overflow_add-len
overflow_add-len c =
    let s = subst (λ (o : Option Span). Spans c.args.first c.args.mask.now o) c.in-Some.is c.in_ok-span.ensures in
    let same : c.deref.result.now ≡ (c.args.self.now).segments = c.deref.ensures ∙ ap (λ (x : OffsetsData). x.segments) c.self.view_is in
    let count : c.row_count-rows.result ≡ total_rows (c.args.self.now).segments = c.row_count-rows.ensures ∙ ap total_rows same in
    omega (arith, s.1, count, c.row_count-rows.type_inv, c.requires, c.len.ensures)

pub read-requires : goal.read-requires
read-requires c =
    let s = subst (λ (o : Option Span). Spans c.args.first c.args.mask.now o) c.in-Some.is c.in_ok-span.ensures in
    omega (arith, s.1, c.requires, c.len.ensures)

pub returns-in_err-offsets-in-Some : goal.returns-in_err-offsets-in-Some
returns-in_err-offsets-in-Some c =
    let s = subst (λ (o : Option Span). Spans c.args.first c.args.mask.now o) c.in-Some.is c.in_ok-span.ensures in
    let n : c.len.result + 1 ≡ length c.in-Some.span.mask + 1 = omega (arith, c.len.ensures) in
    let q = err_from_is_err_and c.from_residual-in_err-offsets-in-Some.result c.from_residual-in_err-offsets-in-Some.ensures.1 in
    let own = subst (λ (m : ℕ). ReadsOffsets {A = List ℕ} (λ v. v) c.args.self.now (came c.args.inbox.now) c.in-Some.span.first m (Err c.in_err-offsets-in-Some.field-0.0)) n c.in_err-offsets-in-Some.ensures in
    rw (q.1, q.2) (cut_fault {A = List ℕ} (λ v. v) c.args.self.now (came c.args.inbox.now) (true_rows c.args.first c.args.mask.now) c.in-Some.span.first c.in-Some.span.mask c.in_err-offsets-in-Some.field-0.0 s.0 own)

pub returns-in_ok-offsets-in-Some : goal.returns-in_ok-offsets-in-Some
returns-in_ok-offsets-in-Some c =
    let s = subst (λ (o : Option Span). Spans c.args.first c.args.mask.now o) c.in-Some.is c.in_ok-span.ensures in
    let n : c.len.result + 1 ≡ length c.in-Some.span.mask + 1 = omega (arith, c.len.ensures) in
    let own = subst (λ (m : ℕ). ReadsOffsets {A = List ℕ} (λ v. v) c.args.self.now (came c.args.inbox.now) c.in-Some.span.first m (Ok c.in_ok-offsets-in-Some.offsets.items)) n c.in_ok-offsets-in-Some.ensures in
    record { span = s.0; offsets = own }

pub returns-in-None : goal.returns-in-None
returns-in-None c = subst (λ (o : Option Span). Spans c.args.first c.args.mask.now o) c.in-None.is c.in_ok-span.ensures
