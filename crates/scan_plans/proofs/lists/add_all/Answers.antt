use borrow.Author.Rules.{rules}
use Rattle.std.proofs.Common.{◌≡◌, ◌||◌, ℕ, List, ap}
use Rattle.scan_values.specs.Selections.{is_among}
use Rattle.scan_splits.specs.Wanted.{with_id}
use Rattle.scan_plans.proofs.ListWants.{adding_next, adding_end}
use Rattle.scan_plans.proofs.lists.add_all.Goals as goal

pub loop-id-init : goal.loop-id-init
loop-id-init c = λ j. ap (λ (xs : List ℕ). is_among c.args.wants.now j || is_among xs j) c.as_slice-items.ensures.ids

pub loop-id-preserved : goal.loop-id-preserved
loop-id-preserved c =
    let added : c.add.new.self ≡ with_id c.id-item.result c.loop-id.wants = search (rules, c.in_ok-add.ensures.ok) in
    adding_next c.args.wants.now c.loop-id.wants c.add.new.self c.as_slice-items.result.now c.loop-id.id-index c.id-item.result c.args.ids.now c.loop-id-test.true c.id-item.is added c.loop-id.invariant

pub returns : goal.returns
returns c = adding_end c.args.wants.now c.loop-id.wants c.as_slice-items.result.now c.loop-id.id-index c.args.ids.now c.loop-id-test.false c.loop-id.invariant
