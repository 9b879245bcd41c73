use Rattle.std.proofs.Common.{◌∙◌, map, ap, List}
use Rattle.scan_values.specs.Val.{Val}
use Rattle.scan_values.specs.Values.{val_of}
use Rattle.scan_plans.specs.ListItems.{number_of}
use Rattle.scan_plans.proofs.OffsetChecks.{numbers_are, built_all}
use Rattle.scan_plans.proofs.lists.numbers.Goals as goal

pub returns : goal.returns
returns c =
    let made = built_all number_of val_of c.loop-value.value-index c.as_slice-values.result.now c.loop-value.made.items c.loop-value-test.false c.loop-value.invariant in
    numbers_are c.args.array.now.dtype c.args.array.now.items c.loop-value.made.items c.requires c.as_slice-values.ensures.fit (made ∙ ap (λ (vs : List Val). map number_of vs) c.as_slice-values.ensures.items)
