use borrow.Author.Rules.{rules}
use Rattle.std.proofs.Common.{◌≡◌, ◌+◌, ℕ, ◌++◌, ◌∷◌, [], List, get_or, pos, Some, None, true, ap, subst, ◌∙◌, arith}
use Rattle.scan_layout.specs.Check.{total_rows}
use Rattle.scan_spelling.specs.Places.{places_of}
use Rattle.scan_plans.specs.Lists.{good_offset}
use Rattle.scan_plans.specs.OffsetsData.{OffsetsData, offset_places}
use Rattle.scan_plans.specs.Wants.{leaf_wanted, names_id}
use Rattle.scan_plans.proofs.OffsetChecks.{same_item, check_start, check_next, check_fault, check_end}
use Rattle.scan_plans.proofs.offsets.Offsets.checked.Goals as goal

pub loop-i-init : goal.loop-i-init
loop-i-init c = rw c.in_ok-made.ensures.items (check_start c.args.self.now c.args.first c.args.numbers.now)

pub overflow_add-first : goal.overflow_add-first
overflow_add-first c =
    let same : c.deref.result.now ≡ (c.args.self.now).segments = c.deref.ensures ∙ ap (λ (x : OffsetsData). x.segments) c.self.view_is in
    let count : c.row_count-rows.result ≡ total_rows (c.args.self.now).segments = c.row_count-rows.ensures ∙ ap total_rows same in
    omega (arith, count, c.row_count-rows.type_inv, c.requires, c.loop-i-test.true)

pub returns-in_default : goal.returns-in_default
returns-in_default c =
    let row = c.args.first + c.loop-i.i in
    let w : good_offset c.self.inside.elements c.loop-i.before (get_or c.args.numbers.now c.loop-i.i (pos 0)) ≡ None = search (rules, c.good_offset.ensures, c.in_default.is) in
    let none = subst (λ (x : OffsetsData). good_offset x.elements c.loop-i.before (get_or c.args.numbers.now c.loop-i.i (pos 0)) ≡ None) c.self.view_is w in
    let own = subst (λ (gs : List (ℕ × ℕ)). names_id c.segment_of.result (leaf_wanted 0 (places_of c.self.inside.dtype.value c.self.inside.spelling gs) (row ∷ [])) ≡ true) c.deref-in_default.ensures (c.segment_of.ensures c.self.inside.dtype.value c.self.inside.spelling) in
    let named = subst (λ (x : OffsetsData). names_id c.segment_of.result (leaf_wanted 0 (offset_places x) (row ∷ [])) ≡ true) c.self.view_is own in
    check_fault c.args.self.now c.args.first c.args.numbers.now c.loop-i.i c.loop-i.before c.loop-i.made.items (get_or c.args.numbers.now c.loop-i.i (pos 0)) c.segment_of.result c.loop-i-test.true (same_item c.loop-i.i c.args.numbers.now (pos 0) c.loop-i-test.true) none named c.loop-i.invariant

pub loop-i-preserved : goal.loop-i-preserved
loop-i-preserved c =
    let w : good_offset c.self.inside.elements c.loop-i.before (get_or c.args.numbers.now c.loop-i.i (pos 0)) ≡ Some c.in-Some.offset = search (rules, c.good_offset.ensures, c.in-Some.is) in
    let good = subst (λ (x : OffsetsData). good_offset x.elements c.loop-i.before (get_or c.args.numbers.now c.loop-i.i (pos 0)) ≡ Some c.in-Some.offset) c.self.view_is w in
    let pushed : c.push.new.self.items ≡ c.loop-i.made.items ++ c.in-Some.offset ∷ [] = search (rules, c.in_ok-push.ensures.items) in
    rw pushed (check_next c.args.self.now c.args.first c.args.numbers.now c.loop-i.i c.loop-i.before c.loop-i.made.items (get_or c.args.numbers.now c.loop-i.i (pos 0)) c.in-Some.offset c.loop-i-test.true (same_item c.loop-i.i c.args.numbers.now (pos 0) c.loop-i-test.true) good c.loop-i.invariant)

pub returns : goal.returns
returns c = check_end c.args.self.now c.args.first c.args.numbers.now c.loop-i.i c.loop-i.before c.loop-i.made.items (omega (arith, c.loop-i-test.false)) c.loop-i.invariant
