use borrow.Author.Rules.{rules}
use Rattle.std.proofs.Common.{◌≡◌, true, List, ℕ, subst}
use Rattle.scan_splits.specs.Wanted.{is_any}
use Rattle.scan_plans.specs.Came.{came}
use Rattle.scan_plans.specs.Meaning.{true_rows}
use Rattle.scan_plans.specs.OffsetReads.{AddsOffsets}
use Rattle.scan_plans.proofs.ListWants.{offsets_lack}
use Rattle.scan_plans.proofs.offsets.Offsets.next_by_offsets.Goals as goal

pub returns-in_ok-add_all-in-Some : goal.returns-in_ok-add_all-in-Some
returns-in_ok-add_all-in-Some c =
    let o = c.args.self.now in
    let here = came c.args.inbox.now in
    let is = true_rows c.args.first c.args.mask.now in
    let some : is_any c.in-Some.ids ≡ true = search (rules, c.as_slice-some.ensures) in
    let found : AddsOffsets c.new-lacking.result c.collect.new.wants o here is = c.in_ok-collect.ensures in
    let all = subst (λ (xs : List ℕ). AddsOffsets xs c.collect.new.wants o here is) c.new-lacking.ensures found in
    let same : c.in-Some.ids ≡ c.collect.new.wants = search (rules, c.in-Some.ensures) in
    offsets_lack c.args.wants.now c.add_all.new.wants c.collect.new.wants c.in-Some.ids o here is (tt {0}) c.requires.part some all same c.in_ok-add_all-in-Some.ensures
