use borrow.Author.Rules.{rules}
use Rattle.std.proofs.Common.{◌≡◌, ◌+◌, ℕ, [], Bool, List, Option, true, length, replicate, arith, ap, subst, ◌∙◌}
use Rattle.scan_layout.specs.Check.{total_rows}
use Rattle.scan_spelling.specs.Places.{places_of}
use Rattle.scan_plans.specs.Came.{came}
use Rattle.scan_plans.specs.Checking.{ChecksPlaces}
use Rattle.scan_plans.specs.Meaning.{true_rows}
use Rattle.scan_plans.specs.OffsetReads.{Spans}
use Rattle.scan_plans.specs.OffsetsData.{OffsetsData, offset_places}
use Rattle.scan_plans.specs.Wants.{leaf_wanted}
use Rattle.scan_plans.specs.declared.lists.Span.{Span}
use Rattle.scan_plans.proofs.Checked.{offsets_checked, nothing_checked}
use Rattle.scan_plans.proofs.OffsetChecks.{scalar_numbers}
use Rattle.scan_plans.proofs.offsets.Offsets.check.Goals as goal

pub span_of-requires : goal.span_of-requires
span_of-requires c =
    let same : c.deref.result.now ≡ (c.args.self.now).segments = c.deref.ensures ∙ ap (λ (x : OffsetsData). x.segments) c.self.view_is in
    let count : c.row_count-rows.result ≡ total_rows (c.args.self.now).segments = c.row_count-rows.ensures ∙ ap total_rows same in
    omega (arith, count, c.row_count-rows.type_inv, c.requires)

pub overflow_add-len : goal.overflow_add-len
overflow_add-len c =
    let s = subst (λ (o : Option Span). Spans c.args.first c.args.mask.now o) c.in-Some.is c.in_ok-span.ensures in
    let same : c.deref.result.now ≡ (c.args.self.now).segments = c.deref.ensures ∙ ap (λ (x : OffsetsData). x.segments) c.self.view_is in
    let count : c.row_count-rows.result ≡ total_rows (c.args.self.now).segments = c.row_count-rows.ensures ∙ ap total_rows same in
    omega (arith, s.1, count, c.row_count-rows.type_inv, c.requires, c.len.ensures)

pub check_leaf-requires : goal.check_leaf-requires
check_leaf-requires c = scalar_numbers c.self.inside.dtype.value c.self.invariant

pub returns-in_ok-all-in-Some : goal.returns-in_ok-all-in-Some
returns-in_ok-all-in-Some c =
    let here = came c.args.inbox.now in
    let s = subst (λ (o : Option Span). Spans c.args.first c.args.mask.now o) c.in-Some.is c.in_ok-span.ensures in
    let all : c.as_slice.result.now ≡ replicate (length c.in-Some.span.mask + 1) true = search (rules, c.as_slice.ensures, c.in_ok-all-in-Some.ensures, c.len.ensures) in
    let same : c.deref-in-Some.result.now ≡ c.self.inside.runs.value = c.deref-in-Some.ensures in
    let moved = subst (λ (gs : List (ℕ × ℕ)). ChecksPlaces (leaf_wanted 0 (places_of c.self.inside.dtype.value c.self.inside.spelling gs) (true_rows c.in-Some.span.first c.as_slice.result.now)) here c.check_leaf.result) same c.check_leaf.ensures in
    let whole = subst (λ (bits : List Bool). ChecksPlaces (leaf_wanted 0 (places_of c.self.inside.dtype.value c.self.inside.spelling c.self.inside.runs.value) (true_rows c.in-Some.span.first bits)) here c.check_leaf.result) all moved in
    let seen = subst (λ (x : OffsetsData). ChecksPlaces (leaf_wanted 0 (offset_places x) (true_rows c.in-Some.span.first (replicate (length c.in-Some.span.mask + 1) true))) here c.check_leaf.result) c.self.view_is whole in
    offsets_checked c.args.self.now here (true_rows c.args.first c.args.mask.now) c.in-Some.span.first c.in-Some.span.mask c.check_leaf.result s.0 seen

pub returns-in-None : goal.returns-in-None
returns-in-None c =
    let none : true_rows c.args.first c.args.mask.now ≡ [] = subst (λ (o : Option Span). Spans c.args.first c.args.mask.now o) c.in-None.is c.in_ok-span.ensures in
    nothing_checked c.args.self.now (came c.args.inbox.now) (true_rows c.args.first c.args.mask.now) none
