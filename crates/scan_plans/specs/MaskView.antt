-- The filters of a mask future.
use Rattle.std.specs.Prelude.{List, map}
use Rattle.scan_plans.specs.Masks.{Filter as Seen}
use Rattle.scan_plans.specs.declared.mask.Filter.{Filter}

abbrev pub filter_of : Filter → Seen
filter_of f = ((f.plan.value).tree, f.first)

abbrev pub filters_of : List Filter → List Seen
filters_of = map filter_of
